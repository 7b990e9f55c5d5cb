use Rattle.sift_flight.proofs.Reaching.{round_flights_have_accounts}
use Rattle.sift_flight.proofs.flight.round_flights_have_accounts.Goals as goal

pub returns : goal.returns
returns c = round_flights_have_accounts
