use Rattle.sift_unit.proofs.Jumping.{jump_law}
use Rattle.sift_unit.proofs.laws.boards_may_jump.Goals as goal

pub returns : goal.returns
returns c = jump_law
