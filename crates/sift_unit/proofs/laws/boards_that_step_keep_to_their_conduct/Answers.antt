use Rattle.sift_unit.proofs.Flown.{drive_law}
use Rattle.sift_unit.proofs.laws.boards_that_step_keep_to_their_conduct.Goals as goal

pub returns : goal.returns
returns c = drive_law
