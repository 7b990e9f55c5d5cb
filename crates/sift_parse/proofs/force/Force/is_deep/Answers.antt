use Rattle.std.proofs.Common.{arith}
use Rattle.std.proofs.lemmas.Grind.{common_steps}
use Rattle.sift_parse.proofs.force.Force.is_deep.Goals as goal

pub returns-then-opens : goal.returns-then-opens
returns-then-opens c = grind (arith, common_steps)
