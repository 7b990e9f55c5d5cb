use Rattle.sift_vote.specs.laws.Votes.{agreement_is_unique}
use Rattle.sift_vote.proofs.voting.agreement_is_unique.Goals as goal

pub returns : goal.returns
returns c = agreement_is_unique
