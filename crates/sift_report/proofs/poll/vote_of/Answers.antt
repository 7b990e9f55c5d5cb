use Rattle.std.proofs.Common.{ap, ◌∙◌}
use Rattle.sift_vote.specs.Majority.{majority_of}
use Rattle.sift_report.proofs.Polls.{majority_told}
use Rattle.sift_report.proofs.poll.vote_of.Goals as goal

pub returns : goal.returns
returns c =
    majority_told c.majority.result c.deref.result.now c.majority.ensures.found c.majority.ensures.none ∙ ap majority_of (c.deref.ensures.0 ∙ c.places_of.ensures)
