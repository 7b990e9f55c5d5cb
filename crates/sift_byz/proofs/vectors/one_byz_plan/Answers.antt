use Rattle.sift_byz.proofs.Answered.{one_byz_plan}
use Rattle.sift_byz.proofs.vectors.one_byz_plan.Goals as goal

pub returns : goal.returns
returns c = one_byz_plan
