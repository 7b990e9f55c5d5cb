use Rattle.sift_vote.specs.laws.Votes.{unanimity_is_agreed}
use Rattle.sift_vote.proofs.voting.unanimity_is_agreed.Goals as goal

pub returns : goal.returns
returns c = unanimity_is_agreed
