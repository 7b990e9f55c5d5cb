use Rattle.sift_flight.proofs.Telling.{margin_is_told}
use Rattle.sift_flight.proofs.flight.margin_is_told.Goals as goal

pub returns : goal.returns
returns c = margin_is_told
