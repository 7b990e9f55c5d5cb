use Rattle.std.proofs.Common.{rules, arith}
use Rattle.std.proofs.lemmas.Grind.{common_steps}
use Rattle.sift_parse.proofs.Places.Newest.{position_from-dropped}
use Rattle.sift_parse.proofs.scan.task_number.Goals as goal

pub loop-i-preserved : goal.loop-i-preserved
loop-i-preserved c = first_of (search (rules, position_from-dropped), grind (arith, common_steps, position_from-dropped))

pub returns-then-eq : goal.returns-then-eq
returns-then-eq c = grind (arith, common_steps)
