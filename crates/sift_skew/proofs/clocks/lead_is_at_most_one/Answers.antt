use Rattle.sift_skew.specs.laws.Leads.{lead_is_at_most_one}
use Rattle.sift_skew.proofs.clocks.lead_is_at_most_one.Goals as goal

pub returns : goal.returns
returns c = lead_is_at_most_one
