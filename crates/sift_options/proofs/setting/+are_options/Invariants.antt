use Rattle.std.proofs.Common.{length}
use Rattle.sift_options.proofs.setting.+are_options.Given as goal

-- the words that are left
abbrev pub decreases-are_options : goal.decreases-are_options
decreases-are_options l = length l.words.now
