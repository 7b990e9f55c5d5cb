use Rattle.sift_vote.specs.laws.Votes.{majority_is_unique}
use Rattle.sift_vote.proofs.voting.majority_is_unique.Goals as goal

pub returns : goal.returns
returns c = majority_is_unique
