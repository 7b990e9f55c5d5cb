use Rattle.std.proofs.Common.{arith}
use Rattle.std.proofs.lemmas.Grind.{common_steps}
use Rattle.sift_rogue.proofs.storm.FixedRogue.next.Goals as goal

pub returns-then-self-len : goal.returns-then-self-len
returns-then-self-len c = grind (arith, common_steps)
