use Rattle.sift_line.proofs.Ascii.{line_is_a_text}
use Rattle.sift_line.proofs.read.lines_are_texts.Goals as goal

pub returns : goal.returns
returns c = line_is_a_text
