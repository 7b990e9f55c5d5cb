use Rattle.std.proofs.Common.{sym, subst}
use Rattle.sift_mission.specs.Parts.{flown_of}
use Rattle.sift_unit.specs.Desk.{moved}
use Rattle.sift_unit.specs.Passing.{Onward}
use Rattle.sift_unit.specs.Boards.{desk_of}
use Rattle.sift_unit.proofs.Passing.{idle_onward}
use Rattle.sift_unit.proofs.board.Board.rest.Goals as goal

pub returns-clause-onward : goal.returns-clause-onward
returns-clause-onward c =
    let m = flown_of c.args.mission.now in
    let b = desk_of c.args.self.now in
    subst (λ z. Onward m b (moved b b.subframe 2 z 0 b.places)) (sym c.slots-self.ensures)
    (idle_onward m c.requires.walks.fits (desk_of c.args.self.now) c.requires.walks.range c.requires.out c.requires.inside)
