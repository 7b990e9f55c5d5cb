use Rattle.sift_agree.specs.laws.Taking.{faulty_unit_is_agreed_on}
use Rattle.sift_agree.proofs.agreeing.faulty_unit_is_agreed_on.Goals as goal

pub returns : goal.returns
returns c = faulty_unit_is_agreed_on
