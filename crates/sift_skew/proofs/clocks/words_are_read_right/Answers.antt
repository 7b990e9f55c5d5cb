use Rattle.sift_skew.specs.laws.Readings.{words_are_read_right}
use Rattle.sift_skew.proofs.clocks.words_are_read_right.Goals as goal

pub returns : goal.returns
returns c = words_are_read_right
