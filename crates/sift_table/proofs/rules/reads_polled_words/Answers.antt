use Rattle.std.proofs.Common.{arith}
use Rattle.std.proofs.lemmas.Grind.{common_steps}
use Rattle.sift_table.proofs.rules.reads_polled_words.Goals as goal

pub returns-then-index : goal.returns-then-index
returns-then-index c = grind (arith, common_steps)
