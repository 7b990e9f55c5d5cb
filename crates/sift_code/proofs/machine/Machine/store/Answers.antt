use Rattle.std.proofs.Common.{arith}
use Rattle.sift_code.proofs.machine.Machine.store.Goals as goal

pub returns-clause-down : goal.returns-clause-down
returns-clause-down c = grind arith

pub overflow_add-local : goal.overflow_add-local
overflow_add-local c = grind arith

pub returns-clause-words : goal.returns-clause-words
returns-clause-words c = grind arith

pub pop-word-requires-clause-filled : goal.pop-word-requires-clause-filled
pop-word-requires-clause-filled c = grind arith

pub write-requires : goal.write-requires
write-requires c = omega arith

pub pop-word-requires-clause-room : goal.pop-word-requires-clause-room
pop-word-requires-clause-room c = c.requires.room
