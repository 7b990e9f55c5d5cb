use Rattle.sift_flight.proofs.Telling.{slack_is_told}
use Rattle.sift_flight.proofs.flight.slack_is_told.Goals as goal

pub returns : goal.returns
returns c = slack_is_told
