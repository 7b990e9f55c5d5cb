use Rattle.sift_planner.proofs.Room as laws
use Rattle.sift_planner.proofs.planning.plans_run_early.Goals as goal

pub returns : goal.returns
returns c = laws.plans_run_early
