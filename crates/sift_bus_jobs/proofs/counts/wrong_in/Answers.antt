use Rattle.std.proofs.Common.{arith}
use Rattle.std.proofs.lemmas.Grind.{common_steps}
use Rattle.sift_bus_jobs.proofs.counts.wrong_in.Goals as goal

pub loop-log-preserved : goal.loop-log-preserved
loop-log-preserved c = grind (arith, common_steps)
