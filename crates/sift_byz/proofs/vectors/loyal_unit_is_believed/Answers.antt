use Rattle.sift_byz.proofs.Results.{loyal_unit_is_believed}
use Rattle.sift_byz.proofs.vectors.loyal_unit_is_believed.Goals as goal

pub returns : goal.returns
returns c = loyal_unit_is_believed
