use Rattle.sift_table.proofs.lemmas.Answered as laws
use Rattle.sift_table.proofs.table.tables_are_answered.Goals as goal

pub returns : goal.returns
returns c = laws.tables_are_answered
