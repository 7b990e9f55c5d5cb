use Rattle.std.proofs.Common.{arith}
use Rattle.std.proofs.lemmas.Grind.{common_steps}
use Rattle.sift_flight.proofs.figures.config_at.Goals as goal

pub returns-then-f-parts-clause-config : goal.returns-then-f-parts-clause-config
returns-then-f-parts-clause-config c = grind (arith, common_steps)

pub returns-else-f-parts-clause-config : goal.returns-else-f-parts-clause-config
returns-else-f-parts-clause-config c = grind (arith, common_steps)
