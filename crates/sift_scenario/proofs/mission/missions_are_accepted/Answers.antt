use Rattle.sift_scenario.proofs.UniqueRefusals as laws
use Rattle.sift_scenario.proofs.mission.missions_are_accepted.Goals as goal

pub returns : goal.returns
returns c = laws.missions_are_accepted
