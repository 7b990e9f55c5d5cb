use Rattle.sift_rogue.specs.Storms.{sifted}
use Rattle.sift_rogue.specs.declared.storm.Storm.{Storm}
use Rattle.sift_alone.proofs.rogues.storms_give_what_they_draw.Goals as goal

-- what stands past the last rogue
abbrev unbegun : Storm
unbegun = record { drawer = 0 }

pub returns : goal.returns
returns c = λ storms mission strays given u storm low is.
    let gave = given u storm unbegun low is in
    (c.drawn_storms_are_the_draws.ensures.strays (sifted mission.layout u) (record { number = storm.number; count = storm.strays; strays = strays u }) _ gave.0 gave.1).0
