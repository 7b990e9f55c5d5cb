use Rattle.sift_script.proofs.Steady as laws
use Rattle.sift_script.proofs.checked.faults_are_for_good.Goals as goal

pub returns : goal.returns
returns c = laws.faults_are_for_good
