use Rattle.sift_flight.proofs.Rows.{rows_hold}
use Rattle.sift_flight.proofs.flight.rows_hold.Goals as goal

pub returns : goal.returns
returns c = rows_hold
