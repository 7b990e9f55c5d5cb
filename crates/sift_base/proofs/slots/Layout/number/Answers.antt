use Rattle.std.proofs.Common.{arith}
use Rattle.std.proofs.lemmas.Grind.{common_steps}
use Rattle.sift_base.proofs.slots.Layout.number.Goals as goal

pub returns-in-RelaySense-clause-number : goal.returns-in-RelaySense-clause-number
returns-in-RelaySense-clause-number c = grind (arith, common_steps)
