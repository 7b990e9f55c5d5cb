use Rattle.sift_byz.proofs.Answered.{byz_plans_are_accepted}
use Rattle.sift_byz.proofs.vectors.byz_plans_are_accepted.Goals as goal

pub returns : goal.returns
returns c = byz_plans_are_accepted
