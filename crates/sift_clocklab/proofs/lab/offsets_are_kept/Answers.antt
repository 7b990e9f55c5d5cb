use Rattle.sift_clocklab.proofs.Keeping.{offsets_are_kept}
use Rattle.sift_clocklab.proofs.lab.offsets_are_kept.Goals as goal

pub returns : goal.returns
returns c = offsets_are_kept
