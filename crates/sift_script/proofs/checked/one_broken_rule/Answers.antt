use Rattle.sift_script.proofs.lemmas.Refusals as laws
use Rattle.sift_script.proofs.checked.one_broken_rule.Goals as goal

pub returns : goal.returns
returns c = laws.one_broken_rule
