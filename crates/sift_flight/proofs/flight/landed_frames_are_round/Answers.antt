use Rattle.sift_flight.proofs.Landed.{landed_frames_are_round}
use Rattle.sift_flight.proofs.flight.landed_frames_are_round.Goals as goal

pub returns : goal.returns
returns c = landed_frames_are_round
