use Rattle.sift_flight.proofs.Unique.{at_most_one_flight_hears_them}
use Rattle.sift_flight.proofs.flight.at_most_one_flight_hears_them.Goals as goal

pub returns : goal.returns
returns c = at_most_one_flight_hears_them
