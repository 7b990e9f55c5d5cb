use Rattle.sift_byz.proofs.Entries.{one_traitor_is_as_in_flights}
use Rattle.sift_byz.proofs.vectors.one_traitor_is_as_in_flights.Goals as goal

pub returns : goal.returns
returns c = one_traitor_is_as_in_flights
