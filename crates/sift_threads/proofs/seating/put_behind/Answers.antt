use Rattle.std.proofs.Common.{arith}
use Rattle.std.proofs.lemmas.Grind.{common_steps}
use Rattle.sift_threads.proofs.seating.put_behind.Goals as goal

pub loop-rogue-preserved : goal.loop-rogue-preserved
loop-rogue-preserved g c = grind (arith, common_steps)

pub returns : goal.returns
returns g c = grind (arith, common_steps)
