use Rattle.std.proofs.Common.{arith}
use Rattle.std.proofs.lemmas.Grind.{common_steps}
use Rattle.sift_code.proofs.nest.Walk.ends_unequal.Goals as goal

pub returns-in_default : goal.returns-in_default
returns-in_default c = grind arith

pub returns-in_default-2 : goal.returns-in_default-2
returns-in_default-2 c = grind arith

pub index-requires-in-Some-End-Some : goal.index-requires-in-Some-End-Some
index-requires-in-Some-End-Some c = omega arith

pub returns-in_default-3 : goal.returns-in_default-3
returns-in_default-3 c = grind arith

pub returns-in-Some-End-Some : goal.returns-in-Some-End-Some
returns-in-Some-End-Some c = grind (arith, common_steps)
