use Rattle.std.proofs.Common.{arith}
use Rattle.sift_code.proofs.machine.Machine.load.Goals as goal

pub returns-clause-up : goal.returns-clause-up
returns-clause-up c = grind arith

pub push-requires-clause-room : goal.push-requires-clause-room
push-requires-clause-room c = c.requires.room

pub overflow_add-local : goal.overflow_add-local
overflow_add-local c = grind arith

pub push-requires-clause-inside : goal.push-requires-clause-inside
push-requires-clause-inside c = grind arith

pub read-word-requires : goal.read-word-requires
read-word-requires c = omega arith

pub returns-clause-words : goal.returns-clause-words
returns-clause-words c = grind arith
