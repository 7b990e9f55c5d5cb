use Rattle.sift_table.proofs.Plain as laws
use Rattle.sift_table.proofs.table.plain_tables_are_good.Goals as goal

pub returns : goal.returns
returns c = laws.plain_tables_are_good
