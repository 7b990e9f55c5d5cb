use Rattle.std.proofs.Common.{arith}
use Rattle.std.proofs.lemmas.Grind.{common_steps}
use Rattle.sift_bus_port.proofs.carrying.wrong_of.Goals as goal

-- each bus is compared with the word
pub returns : goal.returns
returns c = grind (arith, common_steps)
