use Rattle.sift_table.proofs.Executors as laws
use Rattle.sift_table.proofs.table.tasks_have_three_executors.Goals as goal

pub returns : goal.returns
returns c = laws.tasks_have_three_executors
