use Rattle.sift_line.proofs.Versions.{lines_tell}
use Rattle.sift_line.proofs.read.lines_tell_their_version.Goals as goal

pub returns : goal.returns
returns c = lines_tell
