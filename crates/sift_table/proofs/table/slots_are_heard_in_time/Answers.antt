use Rattle.sift_table.proofs.Executors as laws
use Rattle.sift_table.proofs.table.slots_are_heard_in_time.Goals as goal

pub returns : goal.returns
returns c = laws.slots_are_heard_in_time
