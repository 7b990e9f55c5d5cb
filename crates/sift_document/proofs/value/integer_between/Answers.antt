use Rattle.std.proofs.Common.{arith}
use Rattle.std.proofs.lemmas.Grind.{common_steps}
use Rattle.sift_document.proofs.value.integer_between.Goals as goal

pub returns-else-low-number : goal.returns-else-low-number
returns-else-low-number c = grind (arith, common_steps)
