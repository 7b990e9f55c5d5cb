use Rattle.std.proofs.Common.{arith}
use Rattle.sift_code.proofs.machine.Machine.begin.Goals as goal

pub returns-in_default-clause-some : goal.returns-in_default-clause-some
returns-in_default-clause-some c = grind arith

pub returns-in-Some-clause-none : goal.returns-in-Some-clause-none
returns-in-Some-clause-none c = grind arith

pub returns-in_default-clause-none : goal.returns-in_default-clause-none
returns-in_default-clause-none c = grind arith

pub overflow_add-self-then-rounds-gt0 : goal.overflow_add-self-then-rounds-gt0
overflow_add-self-then-rounds-gt0 c = grind arith

pub overflow_cast-self : goal.overflow_cast-self
overflow_cast-self c = grind arith

pub returns-then-rounds-gt0-clause-some : goal.returns-then-rounds-gt0-clause-some
returns-then-rounds-gt0-clause-some c = grind arith

pub returns-in-Some-clause-some : goal.returns-in-Some-clause-some
returns-in-Some-clause-some c = grind arith

pub returns-then-rounds-gt0-clause-none : goal.returns-then-rounds-gt0-clause-none
returns-then-rounds-gt0-clause-none c = grind arith

pub write-requires : goal.write-requires
write-requires c = omega arith

pub overflow_add-self : goal.overflow_add-self
overflow_add-self c = grind arith
