use Rattle.std.proofs.Common.{arith}
use Rattle.std.proofs.lemmas.Grind.{common_steps}
use Rattle.sift_code.proofs.machine.clear_outs.Goals as goal

pub loop-output-preserved : goal.loop-output-preserved
loop-output-preserved c = grind (arith, common_steps)

pub push-requires : goal.push-requires
push-requires c = grind (arith, common_steps)
