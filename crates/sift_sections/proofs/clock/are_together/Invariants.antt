use Rattle.std.proofs.Common.{ℕ, ◌<◌, get_or, pos, ℤ, ◌+ℤ◌, ◌≤ℤ◌}
use Rattle.std.specs.List.{All}
use Rattle.sift_sections.proofs.clock.are_together.Given as goal

-- each of the offsets so far is near to all
abbrev pub invariant-loop-offset : goal.invariant-loop-offset
invariant-loop-offset l = (k : ℕ) (d : ℤ) → k < l.offset-index → All (λ other. get_or l.offsets k d ≤ℤ (other +ℤ pos l.skew)) l.offsets
