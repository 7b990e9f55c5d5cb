use Rattle.std.proofs.Common.{arith}
use Rattle.std.proofs.lemmas.Grind.{common_steps}
use Rattle.sift_ether.proofs.land.join_one.Goals as goal

pub returns-clause-head : goal.returns-clause-head
returns-clause-head c = grind (arith, common_steps)
