use Rattle.sift_reread.proofs.Stops.{once}
use Rattle.sift_reread.proofs.law.texts_stop_once.Goals as goal

pub returns : goal.returns
returns c = once c.lines_come_apart.ensures
