use Rattle.std.proofs.Common.{rules}
use Rattle.sift_mission.proofs.mission.Mission.heard_in.Goals as goal

pub returns : goal.returns
returns c = search rules
