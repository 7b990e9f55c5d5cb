use Rattle.std.proofs.Common.{sym, ◌∙◌}
use Rattle.sift_jobs.proofs.Statuses.{done_is_own}
use Rattle.sift_jobs.proofs.check.CheckJobCommand.keeps_its_row.Goals as goal

pub returns : goal.returns
returns g c = λ means. record {
  own = λ job mission reply is. done_is_own reply _ is;
  one = λ job other same bytes mission states calm came there is is'. is ∙ sym is';
}
