use Rattle.std.proofs.Common.{arith}
use Rattle.sift_code.proofs.refusal.is_bad_jump.Goals as goal

pub returns-in-Some-Begin : goal.returns-in-Some-Begin
returns-in-Some-Begin c = grind arith

pub returns-in_default : goal.returns-in_default
returns-in_default c = grind arith

pub returns-in-Some-End : goal.returns-in-Some-End
returns-in-Some-End c = grind arith

pub returns-in-Some-JumpZ : goal.returns-in-Some-JumpZ
returns-in-Some-JumpZ c = grind arith

pub returns-in-Some-Jump : goal.returns-in-Some-Jump
returns-in-Some-Jump c = grind arith

pub returns-in_default-2 : goal.returns-in_default-2
returns-in_default-2 c = grind arith

pub past-requires : goal.past-requires
past-requires c = grind arith
