use Rattle.sift_reread.proofs.Texts.{reports_are}
use Rattle.sift_reread.proofs.law.reports_are_texts.Goals as goal

pub returns : goal.returns
returns c = reports_are c.lines_are_texts.ensures
