use Rattle.std.proofs.Common.{ℕ, ◌<◌}
use Rattle.sift_code.specs.Refusal.{within, IsFree}
use Rattle.sift_code.specs.Walk.{IsAt}
use Rattle.sift_code.proofs.checked.follow.Given as goal

-- the heights were followed up to this place, and no place before offends
abbrev pub invariant-loop-at : goal.invariant-loop-at
invariant-loop-at l = IsAt l.nest l.at l.walk × ((p : ℕ) → p < l.at → IsFree (within l.nest l.limits) p)
