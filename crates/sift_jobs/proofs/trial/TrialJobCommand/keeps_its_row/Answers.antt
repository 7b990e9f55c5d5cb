use Rattle.std.proofs.Common.{ap}
use Rattle.sift_jobs.specs.declared.trial.TrialJob.{TrialJob}
use Rattle.sift_jobs.proofs.Alike.{one_end}
use Rattle.sift_jobs.proofs.Statuses.{done_is_own}
use Rattle.sift_jobs.proofs.trial.TrialJobCommand.keeps_its_row.Goals as goal

pub returns : goal.returns
returns g c = λ flier. record {
  own = λ job reply gave. done_is_own reply _ gave.2.2;
  one = λ job other same. one_end (g.F.Flier.flying flier) c.fitting_parts_make_a_flight.ensures c.round_flights_are_alike.ensures c.alike_flights_have_one_text.ensures
      c.stated_missions_fit.ensures
      c.one_mission.ensures c.drawn_missions_have_no_storms.ensures job other (ap (λ (it : TrialJob). it.number) same);
}
