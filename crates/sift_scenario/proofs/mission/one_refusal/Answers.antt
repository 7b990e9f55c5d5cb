use Rattle.sift_scenario.proofs.UniqueRefusals as laws
use Rattle.sift_scenario.proofs.mission.one_refusal.Goals as goal

pub returns : goal.returns
returns c = laws.one_refusal
