use Rattle.std.proofs.Common.{arith}
use Rattle.std.proofs.lemmas.Grind.{common_steps}
use Rattle.sift_code.proofs.nest.Walk.is_too_deep.Goals as goal

pub returns-in-None : goal.returns-in-None
returns-in-None c = grind arith

pub returns-then-is_too_high : goal.returns-then-is_too_high
returns-then-is_too_high c = grind (arith, common_steps)

pub returns-else-is_too_high : goal.returns-else-is_too_high
returns-else-is_too_high c = grind (arith, common_steps)
