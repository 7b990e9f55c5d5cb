use Rattle.sift_skew.proofs.lemmas.Keeps.{skew_is_kept}
use Rattle.sift_skew.proofs.clocks.skew_is_kept.Goals as goal

pub returns : goal.returns
returns c = skew_is_kept
