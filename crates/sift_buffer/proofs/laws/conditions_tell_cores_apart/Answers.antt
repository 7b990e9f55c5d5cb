use Rattle.sift_buffer.proofs.Samples.{tell_apart}
use Rattle.sift_buffer.proofs.laws.conditions_tell_cores_apart.Goals as goal

pub returns : goal.returns
returns c = tell_apart
