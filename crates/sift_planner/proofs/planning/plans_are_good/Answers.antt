use Rattle.sift_planner.proofs.Good as laws
use Rattle.sift_planner.proofs.planning.plans_are_good.Goals as goal

pub returns : goal.returns
returns c = laws.plans_are_good
