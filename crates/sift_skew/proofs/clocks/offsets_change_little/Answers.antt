use Rattle.sift_skew.proofs.lemmas.Changes.{offsets_change_little}
use Rattle.sift_skew.proofs.clocks.offsets_change_little.Goals as goal

pub returns : goal.returns
returns c = offsets_change_little
