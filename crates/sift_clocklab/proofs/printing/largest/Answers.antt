use Rattle.std.proofs.Common.{rules}
use Rattle.sift_clocklab.proofs.printing.largest.Goals as goal

pub returns : goal.returns
returns c = search rules
