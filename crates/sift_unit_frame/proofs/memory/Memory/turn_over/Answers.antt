use Rattle.std.proofs.Common.{arith}
use Rattle.std.proofs.lemmas.Grind.{common_steps}
use Rattle.sift_unit_frame.proofs.memory.Memory.turn_over.Goals as goal

pub returns-then-has-clause-shape : goal.returns-then-has-clause-shape
returns-then-has-clause-shape c = grind (arith, common_steps)
