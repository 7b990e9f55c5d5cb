use Rattle.std.proofs.Common.{◌≡◌, ℕ}
use Rattle.std.specs.List.{list_any, range_with_len}
use Rattle.sift_base.specs.Units.{holds}
use Rattle.sift_unit_frame.specs.Memory.{units_at}
use Rattle.sift_unit_frame.proofs.tidings.union_of.Given as goal

-- the members of the sets so far
abbrev pub invariant-loop-i : goal.invariant-loop-i
invariant-loop-i l = (v : ℕ) → holds l.all v ≡ list_any (λ i. holds (units_at l.sets i) v) (range_with_len 0 l.i)
