use Rattle.std.proofs.Common.{arith}
use Rattle.std.proofs.lemmas.Grind.{common_steps}
use Rattle.sift_byz.proofs.lies.is_path.Goals as goal

pub returns-else-are_below : goal.returns-else-are_below
returns-else-are_below c = grind (arith, common_steps)

pub returns-then-are_below : goal.returns-then-are_below
returns-then-are_below c = grind (arith, common_steps)
