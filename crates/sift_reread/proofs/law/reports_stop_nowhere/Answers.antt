use Rattle.sift_reread.proofs.Stops.{nowhere}
use Rattle.sift_reread.proofs.law.reports_stop_nowhere.Goals as goal

pub returns : goal.returns
returns c = nowhere c.lines_come_apart.ensures
