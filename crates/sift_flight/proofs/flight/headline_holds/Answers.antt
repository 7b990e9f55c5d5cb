use Rattle.sift_flight.proofs.Induction.{headline_holds}
use Rattle.sift_flight.proofs.flight.headline_holds.Goals as goal

pub returns : goal.returns
returns c = headline_holds
