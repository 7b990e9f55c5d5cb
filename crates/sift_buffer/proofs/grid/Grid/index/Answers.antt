use Rattle.sift_buffer.specs.Tables.{ranges_of}
use Rattle.sift_buffer.proofs.lemmas.Tables.{entry_low}
use Rattle.sift_buffer.proofs.grid.Grid.index.Goals as goal

pub returns-clause-below : goal.returns-clause-below
returns-clause-below c =
    let g = c.args.self.now in
    rw (g.counted, c.from.ensures, c.from-2.ensures, c.get.ensures.number)
    (entry_low (ranges_of g.layout g.frames) c.args.f c.args.slot c.args.unit c.requires)
