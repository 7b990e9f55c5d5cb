use Rattle.sift_script.proofs.lemmas.Answered as laws
use Rattle.sift_script.proofs.checked.scripts_are_answered.Goals as goal

pub returns : goal.returns
returns c = laws.scripts_are_answered
