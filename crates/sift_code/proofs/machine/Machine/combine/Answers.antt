use Rattle.std.proofs.Common.{arith}
use Rattle.sift_code.proofs.machine.Machine.combine.Goals as goal

pub pop-b-requires-clause-filled : goal.pop-b-requires-clause-filled
pop-b-requires-clause-filled g c = grind arith

pub pop-b-requires-clause-room : goal.pop-b-requires-clause-room
pop-b-requires-clause-room g c = c.requires.room

pub returns-clause-down : goal.returns-clause-down
returns-clause-down g c = grind arith

pub pop-a-requires-clause-inside : goal.pop-a-requires-clause-inside
pop-a-requires-clause-inside g c = grind arith

pub pop-a-requires-clause-filled : goal.pop-a-requires-clause-filled
pop-a-requires-clause-filled g c = grind arith

pub pop-a-requires-clause-room : goal.pop-a-requires-clause-room
pop-a-requires-clause-room g c = c.requires.room

pub push-requires-clause-inside : goal.push-requires-clause-inside
push-requires-clause-inside g c = grind arith

pub pop-b-requires-clause-inside : goal.pop-b-requires-clause-inside
pop-b-requires-clause-inside g c = grind arith

pub push-requires-clause-room : goal.push-requires-clause-room
push-requires-clause-room g c = c.requires.room

pub returns-clause-words : goal.returns-clause-words
returns-clause-words g c = grind arith
