use Rattle.sift_unit.proofs.Starting.{start_law}
use Rattle.sift_unit.proofs.laws.new_boards_keep_to_it.Goals as goal

pub returns : goal.returns
returns c = start_law
