use Rattle.sift_table.proofs.Executors as laws
use Rattle.sift_table.proofs.table.tasks_run_after_their_needs.Goals as goal

pub returns : goal.returns
returns c = laws.tasks_run_after_their_needs
