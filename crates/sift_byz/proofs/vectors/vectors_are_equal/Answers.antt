use Rattle.sift_byz.proofs.Entries.{vectors_are_equal}
use Rattle.sift_byz.proofs.vectors.vectors_are_equal.Goals as goal

pub returns : goal.returns
returns c = vectors_are_equal
