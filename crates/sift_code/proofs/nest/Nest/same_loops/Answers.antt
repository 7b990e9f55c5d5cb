use Rattle.sift_code.proofs.Tables.{same_starts}
use Rattle.sift_code.proofs.nest.Nest.same_loops.Goals as goal

-- the starts tell which loops enclose a place
pub returns : goal.returns
returns c = same_starts c.args.self.now c.args.a c.args.b c.start.result c.start-2.result c.eq.result c.start.ensures.found c.start-2.ensures.found c.eq.ensures
