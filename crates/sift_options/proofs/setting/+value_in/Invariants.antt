use Rattle.std.proofs.Common.{length}
use Rattle.sift_options.proofs.setting.+value_in.Given as goal

-- the words that are left
abbrev pub decreases-value_in : goal.decreases-value_in
decreases-value_in l = length l.words.now
