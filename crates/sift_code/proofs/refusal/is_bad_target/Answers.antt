use Rattle.std.proofs.Common.{arith}
use Rattle.sift_code.proofs.refusal.is_bad_target.Goals as goal

pub same_loops-requires-clause-a_inside : goal.same_loops-requires-clause-a_inside
same_loops-requires-clause-a_inside c = grind arith

pub returns-then-to-len : goal.returns-then-to-len
returns-then-to-len c = grind arith
