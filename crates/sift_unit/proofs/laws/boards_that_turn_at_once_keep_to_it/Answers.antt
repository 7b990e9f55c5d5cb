use Rattle.sift_unit.proofs.Starting.{turn_first_law}
use Rattle.sift_unit.proofs.laws.boards_that_turn_at_once_keep_to_it.Goals as goal

pub returns : goal.returns
returns c = turn_first_law
