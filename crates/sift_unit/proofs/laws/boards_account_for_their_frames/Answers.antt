use Rattle.sift_unit.proofs.Flown.{account_law}
use Rattle.sift_unit.proofs.laws.boards_account_for_their_frames.Goals as goal

pub returns : goal.returns
returns c = account_law
