use Rattle.sift_parse.proofs.Printing.Law.{printed_tree_is_task}
use Rattle.sift_parse.proofs.task.printed_tree_is_task.Goals as goal

pub returns : goal.returns
returns c = printed_tree_is_task
