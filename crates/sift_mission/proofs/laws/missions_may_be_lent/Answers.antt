use Rattle.sift_mission.proofs.Lent.{mission_sync}
use Rattle.sift_mission.proofs.laws.missions_may_be_lent.Goals as goal

pub returns : goal.returns
returns c = mission_sync
