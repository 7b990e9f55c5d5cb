use Rattle.std.proofs.Common.{arith}
use Rattle.std.proofs.lemmas.Grind.{common_steps}
use Rattle.sift_mission.proofs.timetable.run_times.Goals as goal

pub loop-t-preserved : goal.loop-t-preserved
loop-t-preserved c = grind (arith, common_steps)

pub run_of-requires : goal.run_of-requires
run_of-requires c = grind (arith, common_steps)
