use Rattle.std.proofs.Common.{arith}
use Rattle.sift_code.proofs.refusal.is_bad_operand.Goals as goal

pub returns-in_default-2 : goal.returns-in_default-2
returns-in_default-2 c = grind arith

pub returns-in-Some-Now : goal.returns-in-Some-Now
returns-in-Some-Now c = grind arith

pub returns-in-Some-Load : goal.returns-in-Some-Load
returns-in-Some-Load c = grind arith

pub returns-in-Some-Sense : goal.returns-in-Some-Sense
returns-in-Some-Sense c = grind arith

pub returns-in-Some-Out : goal.returns-in-Some-Out
returns-in-Some-Out c = grind arith

pub returns-in_default : goal.returns-in_default
returns-in_default c = grind arith
