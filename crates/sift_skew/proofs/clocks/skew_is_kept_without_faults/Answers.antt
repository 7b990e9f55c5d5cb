use Rattle.sift_skew.proofs.lemmas.Keeps.{skew_is_kept_without_faults}
use Rattle.sift_skew.proofs.clocks.skew_is_kept_without_faults.Goals as goal

pub returns : goal.returns
returns c = skew_is_kept_without_faults
