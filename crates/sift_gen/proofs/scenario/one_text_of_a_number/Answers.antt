use Rattle.sift_gen.proofs.Floatless.{floatless_tree}
use Rattle.sift_gen.proofs.OneText.{one_document}
use Rattle.sift_gen.specs.Scenario.{tree_of}
use Rattle.sift_gen.proofs.scenario.one_text_of_a_number.Goals as goal

pub returns : goal.returns
returns c = λ n one other a b. one_document (tree_of n) one other (floatless_tree n) a.printed b.printed
