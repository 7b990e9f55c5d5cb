use Rattle.sift_line.proofs.LineFeeds.{come_apart}
use Rattle.sift_line.proofs.read.lines_come_apart.Goals as goal

pub returns : goal.returns
returns c = come_apart
