use Rattle.sift_skew.specs.laws.Readings.{heard_clocks_are_read_well}
use Rattle.sift_skew.proofs.clocks.heard_clocks_are_read_well.Goals as goal

pub returns : goal.returns
returns c = heard_clocks_are_read_well
