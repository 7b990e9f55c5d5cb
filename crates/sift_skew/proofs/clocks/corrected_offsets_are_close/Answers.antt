use Rattle.sift_skew.proofs.Ceilings.{corrected_offsets_are_close}
use Rattle.sift_skew.proofs.clocks.corrected_offsets_are_close.Goals as goal

pub returns : goal.returns
returns c = corrected_offsets_are_close
