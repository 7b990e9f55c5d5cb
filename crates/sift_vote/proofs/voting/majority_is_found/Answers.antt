use Rattle.sift_vote.specs.laws.Found.{majority_is_found}
use Rattle.sift_vote.proofs.voting.majority_is_found.Goals as goal

pub returns : goal.returns
returns c = majority_is_found
