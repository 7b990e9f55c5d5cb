use Rattle.sift_byz.proofs.Entries.{loyal_values_are_kept}
use Rattle.sift_byz.proofs.vectors.loyal_values_are_kept.Goals as goal

pub returns : goal.returns
returns c = loyal_values_are_kept
