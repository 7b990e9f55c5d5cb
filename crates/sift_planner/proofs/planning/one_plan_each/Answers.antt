use Rattle.sift_planner.proofs.EachSize as laws
use Rattle.sift_planner.proofs.planning.one_plan_each.Goals as goal

pub returns : goal.returns
returns c = laws.one_plan_each
