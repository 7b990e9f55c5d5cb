use Rattle.sift_unit.proofs.Starting.{turn_law}
use Rattle.sift_unit.proofs.laws.boards_that_turn_keep_to_it.Goals as goal

pub returns : goal.returns
returns c = turn_law c.offsets_change_little.ensures
