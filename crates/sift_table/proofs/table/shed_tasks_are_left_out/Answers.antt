use Rattle.sift_table.proofs.Executors as laws
use Rattle.sift_table.proofs.table.shed_tasks_are_left_out.Goals as goal

pub returns : goal.returns
returns c = laws.shed_tasks_are_left_out
