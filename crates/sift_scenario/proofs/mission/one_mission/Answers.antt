use Rattle.sift_scenario.proofs.OneMission as laws
use Rattle.sift_scenario.proofs.mission.one_mission.Goals as goal

pub returns : goal.returns
returns c = laws.one_mission
