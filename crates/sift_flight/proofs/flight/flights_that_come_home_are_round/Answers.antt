use Rattle.sift_flight.proofs.Homing.{flights_that_come_home_are_round}
use Rattle.sift_flight.proofs.flight.flights_that_come_home_are_round.Goals as goal

pub returns : goal.returns
returns c = flights_that_come_home_are_round
