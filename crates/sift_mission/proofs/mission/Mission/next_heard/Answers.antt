use Rattle.std.proofs.Common.{rules}
use Rattle.sift_mission.proofs.mission.Mission.next_heard.Goals as goal

pub returns-clause-found : goal.returns-clause-found
returns-clause-found c = search rules
