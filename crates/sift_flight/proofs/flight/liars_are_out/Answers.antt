use Rattle.sift_flight.proofs.Lying.{liars_are_out}
use Rattle.sift_flight.proofs.flight.liars_are_out.Goals as goal

pub returns : goal.returns
returns c = liars_are_out
