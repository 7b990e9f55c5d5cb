use Rattle.std.proofs.Common.{subst}
use Rattle.sift_row.specs.Row.{AreOne}
use Rattle.sift_jobs.specs.Gen.{GenGives}
use Rattle.sift_jobs.specs.declared.scenario.GenJob.{GenJob}
use Rattle.sift_jobs.proofs.Alike.{one_scenario}
use Rattle.sift_jobs.proofs.Statuses.{done_is_own}
use Rattle.sift_jobs.proofs.scenario.GenJobCommand.keeps_its_row.Goals as goal

pub returns : goal.returns
returns g c = λ means. record {
  own = λ job reply gave. done_is_own reply _ gave.2;
  one = λ job other same.
      subst (λ (it : GenJob). AreOne (GenGives job) (GenGives it)) same (one_scenario c.one_text_of_a_number.ensures job);
}
