use Rattle.sift_unit.proofs.Turning.{keep_law}
use Rattle.sift_unit.proofs.laws.boards_keep_to_their_conduct.Goals as goal

pub returns : goal.returns
returns c = keep_law
