use Rattle.sift_buffer.proofs.Cells.{packing}
use Rattle.sift_buffer.proofs.laws.packing_is_taken.Goals as goal

pub returns : goal.returns
returns c = packing
