use Rattle.sift_byz.proofs.Answered.{stated_byz_plans_are_lawful}
use Rattle.sift_byz.proofs.vectors.stated_byz_plans_are_lawful.Goals as goal

pub returns : goal.returns
returns c = stated_byz_plans_are_lawful
