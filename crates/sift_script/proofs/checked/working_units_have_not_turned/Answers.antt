use Rattle.sift_script.proofs.Steady as laws
use Rattle.sift_script.proofs.checked.working_units_have_not_turned.Goals as goal

pub returns : goal.returns
returns c = laws.working_units_have_not_turned
