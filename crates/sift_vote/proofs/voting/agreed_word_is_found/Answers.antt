use Rattle.sift_vote.specs.laws.Found.{agreed_word_is_found}
use Rattle.sift_vote.proofs.voting.agreed_word_is_found.Goals as goal

pub returns : goal.returns
returns c = agreed_word_is_found
