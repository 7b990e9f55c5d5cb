use Rattle.sift_table.proofs.Words as laws
use Rattle.sift_table.proofs.table.words_have_their_task.Goals as goal

pub returns : goal.returns
returns c = laws.words_have_their_task
