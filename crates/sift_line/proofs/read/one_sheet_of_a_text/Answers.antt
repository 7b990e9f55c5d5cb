use Rattle.sift_line.proofs.OneSheet.{one_sheet}
use Rattle.sift_line.proofs.read.one_sheet_of_a_text.Goals as goal

pub returns : goal.returns
returns c = one_sheet
