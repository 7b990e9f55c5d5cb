use Rattle.std.proofs.Common.{subst}
use Rattle.sift_row.specs.Row.{AreOne}
use Rattle.sift_bus_jobs.specs.Buses.{BusesGives}
use Rattle.sift_bus_jobs.specs.Numbers.{BusNumbers}
use Rattle.sift_bus_jobs.proofs.OneReply.{one_reply, own}
use Rattle.sift_bus_jobs.proofs.buses.BusesJobCommand.keeps_its_row.Goals as goal

pub returns : goal.returns
returns g c = λ means. record {
  own = own;
  one = λ job other same bytes mission states calm.
      subst (λ (it : BusNumbers). AreOne (BusesGives job mission) (BusesGives it mission)) same
      (λ came there. one_reply c.fitting_parts_make_a_flight.ensures c.round_flights_are_alike.ensures
      c.alike_flights_have_one_text.ensures c.stated_missions_fit.ensures job bytes mission came there states);
}
