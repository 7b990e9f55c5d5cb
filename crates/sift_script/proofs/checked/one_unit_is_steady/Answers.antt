use Rattle.sift_script.proofs.Steady as laws
use Rattle.sift_script.proofs.checked.one_unit_is_steady.Goals as goal

pub returns : goal.returns
returns c = laws.one_unit_is_steady
