use Rattle.sift_unit.proofs.Flown.{new_board_law}
use Rattle.sift_unit.proofs.laws.new_boards_may_step.Goals as goal

pub returns : goal.returns
returns c = new_board_law
