use Rattle.sift_skew.specs.laws.Leads.{slack_is_unique}
use Rattle.sift_skew.proofs.clocks.slack_is_unique.Goals as goal

pub returns : goal.returns
returns c = slack_is_unique
