use Rattle.sift_planner.proofs.Plans as laws
use Rattle.sift_planner.proofs.planning.one_refusal.Goals as goal

pub returns : goal.returns
returns c = laws.one_refusal
