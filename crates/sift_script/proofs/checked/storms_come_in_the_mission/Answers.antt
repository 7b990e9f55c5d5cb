use Rattle.sift_script.proofs.Steady as laws
use Rattle.sift_script.proofs.checked.storms_come_in_the_mission.Goals as goal

pub returns : goal.returns
returns c = laws.storms_come_in_the_mission
