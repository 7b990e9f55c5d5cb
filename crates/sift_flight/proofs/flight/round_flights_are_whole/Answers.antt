use Rattle.sift_flight.proofs.Reaching.{round_flights_are_whole}
use Rattle.sift_flight.proofs.flight.round_flights_are_whole.Goals as goal

pub returns : goal.returns
returns c = round_flights_are_whole c.fitting_parts_make_a_flight.ensures
