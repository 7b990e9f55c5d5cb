use Rattle.sift_lab_jobs.proofs.OneReply.{one_byz}
use Rattle.sift_lab_jobs.proofs.Statuses.{of_byz}
use Rattle.sift_lab_jobs.proofs.labs.ByzJobCommand.keeps_its_row.Goals as goal

pub returns : goal.returns
returns g c = λ means. record {
  own = λ job. of_byz;
  one = λ job other same. one_byz c.one_byz_plan.ensures c.byz_plans_are_accepted.ensures c.one_refusal.ensures;
}
