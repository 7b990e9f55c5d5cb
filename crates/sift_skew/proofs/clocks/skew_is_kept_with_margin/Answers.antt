use Rattle.sift_skew.proofs.lemmas.Keeps.{skew_is_kept_with_margin}
use Rattle.sift_skew.proofs.clocks.skew_is_kept_with_margin.Goals as goal

pub returns : goal.returns
returns c = skew_is_kept_with_margin
