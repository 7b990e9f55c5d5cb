use Rattle.sift_lab_jobs.proofs.Shown.{agree}
use Rattle.sift_lab_jobs.proofs.labs.stated_byz_plans_agree.Goals as goal

pub returns : goal.returns
returns c = agree c.stated_byz_plans_are_lawful.ensures c.vectors_are_equal.ensures c.loyal_values_are_kept.ensures
