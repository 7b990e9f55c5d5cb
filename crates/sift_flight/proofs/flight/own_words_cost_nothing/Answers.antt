use Rattle.sift_flight.proofs.FaultyMembers.{own_words_cost_nothing}
use Rattle.sift_flight.proofs.flight.own_words_cost_nothing.Goals as goal

pub returns : goal.returns
returns c = own_words_cost_nothing
