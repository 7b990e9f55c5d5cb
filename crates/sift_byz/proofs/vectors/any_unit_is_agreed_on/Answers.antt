use Rattle.sift_byz.proofs.Results.{any_unit_is_agreed_on}
use Rattle.sift_byz.proofs.vectors.any_unit_is_agreed_on.Goals as goal

pub returns : goal.returns
returns c = any_unit_is_agreed_on
