use Rattle.sift_skew.specs.laws.Leads.{slack_is_positive}
use Rattle.sift_skew.proofs.clocks.slack_is_positive.Goals as goal

pub returns : goal.returns
returns c = slack_is_positive
