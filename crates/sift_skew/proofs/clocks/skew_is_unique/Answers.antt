use Rattle.sift_skew.specs.laws.Leads.{skew_is_unique}
use Rattle.sift_skew.proofs.clocks.skew_is_unique.Goals as goal

pub returns : goal.returns
returns c = skew_is_unique
