use Rattle.sift_line.proofs.OneSheet.{one_line}
use Rattle.sift_line.proofs.read.one_line_of_a_text.Goals as goal

pub returns : goal.returns
returns c = one_line
