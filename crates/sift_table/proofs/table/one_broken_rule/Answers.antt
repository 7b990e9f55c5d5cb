use Rattle.sift_table.proofs.lemmas.Refusals as laws
use Rattle.sift_table.proofs.table.one_broken_rule.Goals as goal

pub returns : goal.returns
returns c = laws.one_broken_rule
