use Rattle.std.proofs.Common.{rules}
use Rattle.sift_base.specs.Draw.{after}
use Rattle.sift_gen.proofs.task.drawn.Goals as goal

pub returns : goal.returns
unfolding after
returns c = search rules
