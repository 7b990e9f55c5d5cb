use Rattle.sift_buffer.specs.Tables.{ranges_of}
use Rattle.sift_buffer.proofs.Places.{place_low}
use Rattle.sift_buffer.proofs.grid.Grid.place.Goals as goal

pub returns-clause-below : goal.returns-clause-below
returns-clause-below c =
    let g = c.args.self.now in
    let low = place_low (ranges_of g.layout g.frames) c.args.from c.args.to c.args.slot c.requires.from c.requires.to c.requires.slot in
    rw (g.counted, c.from-units.ensures, c.from.ensures, c.from-2.ensures, c.get.ensures.number, c.get-2.ensures.number) low
