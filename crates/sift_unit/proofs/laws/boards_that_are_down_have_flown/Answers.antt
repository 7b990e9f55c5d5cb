use Rattle.sift_unit.proofs.Down.{down_law}
use Rattle.sift_unit.proofs.laws.boards_that_are_down_have_flown.Goals as goal

pub returns : goal.returns
returns c = down_law
