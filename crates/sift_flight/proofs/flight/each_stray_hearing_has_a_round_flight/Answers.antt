use Rattle.sift_flight.proofs.MadeFlight.{each_stray_hearing_has_a_round_flight}
use Rattle.sift_flight.proofs.flight.each_stray_hearing_has_a_round_flight.Goals as goal

pub returns : goal.returns
returns c = each_stray_hearing_has_a_round_flight
