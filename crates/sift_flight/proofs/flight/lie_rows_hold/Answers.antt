use Rattle.sift_flight.proofs.LieRows.{lie_rows}
use Rattle.sift_flight.proofs.flight.lie_rows_hold.Goals as goal

pub returns : goal.returns
returns c = lie_rows
