use Rattle.sift_flight.proofs.TellingAlike.{round_flights_are_alike}
use Rattle.sift_flight.proofs.flight.round_flights_are_alike.Goals as goal

pub returns : goal.returns
returns c = round_flights_are_alike
