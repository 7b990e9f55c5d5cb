use Rattle.sift_flight.proofs.Telling.{skew_is_told}
use Rattle.sift_flight.proofs.flight.skew_is_told.Goals as goal

pub returns : goal.returns
returns c = skew_is_told
