use Rattle.sift_agree.specs.laws.Taking.{working_unit_is_agreed_on}
use Rattle.sift_agree.proofs.agreeing.working_unit_is_agreed_on.Goals as goal

pub returns : goal.returns
returns c = working_unit_is_agreed_on
