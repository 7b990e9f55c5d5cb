use Rattle.std.proofs.Common.{◌≡◌, ℕ, take, nat_lt, ◌&&◌}
use Rattle.sift_base.specs.Units.{holds, has}
use Rattle.sift_exec.specs.Conviction.{names_by}
use Rattle.sift_exec.proofs.conviction.convict.Given as goal
use Rattle.sift_exec.proofs.Accusing.{accusers}

-- convicted so far are those of the units seen that at least two others name
abbrev pub invariant-loop-position : goal.invariant-loop-position
invariant-loop-position l = (u : ℕ) → holds l.convicted u ≡ (has (take l.position l.fn.config) u && nat_lt 1 (accusers (names_by l.fn.config l.fn.masks) l.fn.config u))
