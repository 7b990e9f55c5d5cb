use Rattle.sift_flight.proofs.MadeFlight.{each_mission_has_a_round_flight}
use Rattle.sift_flight.proofs.flight.each_mission_has_a_round_flight.Goals as goal

pub returns : goal.returns
returns c = each_mission_has_a_round_flight
