use Rattle.std.proofs.Common.{ℕ, ◌<◌, get_or}
use Rattle.sift_byz.proofs.lies.are_below.Given as goal

-- the units so far are
abbrev pub invariant-loop-unit : goal.invariant-loop-unit
invariant-loop-unit l = (k d : ℕ) → k < l.unit-index → get_or l.list k d < l.units
