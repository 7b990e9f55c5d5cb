use Rattle.std.proofs.Common.{ap, refl}
use Rattle.sift_jobs.specs.declared.run.RunJob.{RunJob}
use Rattle.sift_jobs.proofs.Alike.{one_report}
use Rattle.sift_jobs.proofs.Statuses.{done_is_own}
use Rattle.sift_jobs.proofs.run.RunJobCommand.keeps_its_row.Goals as goal

pub returns : goal.returns
returns g c = λ flier. record {
  own = λ job mission reply gave. done_is_own reply _ gave.2;
  one = λ job other same bytes mission states calm.
      one_report (g.F.Flier.flying flier) c.fitting_parts_make_a_flight.ensures c.round_flights_are_alike.ensures c.alike_flights_have_one_text.ensures
      c.stated_missions_fit.ensures job other (ap (λ (it : RunJob). it.version) same) bytes mission states (calm refl);
}
