use Rattle.sift_unit.proofs.Strays.{stray_law}
use Rattle.sift_unit.proofs.laws.boards_drive_beside_strays.Goals as goal

pub returns : goal.returns
returns c = stray_law
