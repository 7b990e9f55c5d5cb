use Rattle.std.proofs.Common.{ℕ, ◌<◌, get_or, pos, ℤ, ◌+ℤ◌, ◌≤ℤ◌}
use Rattle.sift_sections.proofs.clock.is_near.Given as goal

-- the offset isn't above one of those so far by more than the skew
abbrev pub invariant-loop-other : goal.invariant-loop-other
invariant-loop-other l = (k : ℕ) (d : ℤ) → k < l.other-index → l.offset ≤ℤ (get_or l.others k d +ℤ pos l.skew)
