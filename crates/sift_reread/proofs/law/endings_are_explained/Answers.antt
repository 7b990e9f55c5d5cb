use Rattle.sift_reread.proofs.Explained.{endings_are}
use Rattle.sift_reread.proofs.law.endings_are_explained.Goals as goal

pub returns : goal.returns
returns c = endings_are c.reports_stop_nowhere.ensures c.texts_stop_once.ensures c.reports_are_texts.ensures
