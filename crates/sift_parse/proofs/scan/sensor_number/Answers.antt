use Rattle.std.proofs.Common.{arith}
use Rattle.std.proofs.lemmas.Grind.{common_steps}
use Rattle.sift_parse.proofs.Places.Newest.{position_from-dropped}
use Rattle.sift_parse.proofs.scan.sensor_number.Goals as goal

pub loop-i-preserved : goal.loop-i-preserved
loop-i-preserved c = grind (arith, common_steps, position_from-dropped)

pub returns-then-eq : goal.returns-then-eq
returns-then-eq c = grind (arith, common_steps)
