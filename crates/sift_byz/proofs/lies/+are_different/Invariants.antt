use Rattle.std.proofs.Common.{length}
use Rattle.sift_byz.proofs.lies.+are_different.Given as goal

-- each call is for a unit fewer
abbrev pub decreases-are_different : goal.decreases-are_different
decreases-are_different l = length l.list.now
