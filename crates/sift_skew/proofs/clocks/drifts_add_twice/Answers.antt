use Rattle.sift_skew.proofs.Steps.{drifts_add_twice}
use Rattle.sift_skew.proofs.clocks.drifts_add_twice.Goals as goal

pub returns : goal.returns
returns c = drifts_add_twice
