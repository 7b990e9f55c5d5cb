use Rattle.sift_parse.proofs.Parsing.Whole.{one_tree}
use Rattle.sift_parse.proofs.task.one_tree.Goals as goal

pub returns : goal.returns
returns c = one_tree
