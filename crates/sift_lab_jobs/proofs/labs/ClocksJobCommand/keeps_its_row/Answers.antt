use Rattle.std.proofs.Common.{subst}
use Rattle.sift_row.specs.Row.{AreOne}
use Rattle.sift_lab_jobs.specs.Clocks.{ClocksGives, LabNumbers}
use Rattle.sift_lab_jobs.proofs.OneReply.{one_clocks}
use Rattle.sift_lab_jobs.proofs.Statuses.{of_clocks}
use Rattle.sift_lab_jobs.proofs.labs.ClocksJobCommand.keeps_its_row.Goals as goal

pub returns : goal.returns
returns g c = λ means. record {
  own = of_clocks;
  one = λ lab other same. subst (λ (it : LabNumbers). AreOne (ClocksGives lab) (ClocksGives it)) same (one_clocks c.one_text_of_a_run.ensures lab);
}
