use Rattle.sift_table.proofs.Executors as laws
use Rattle.sift_table.proofs.table.positions_run_one_task_at_a_time.Goals as goal

pub returns : goal.returns
returns c = laws.positions_run_one_task_at_a_time
