use Rattle.std.proofs.Common.{◌≡◌, ◌≤◌, take}
use Rattle.sift_exec.specs.Conviction.{names_by}
use Rattle.sift_exec.proofs.conviction.accusers_of.Given as goal
use Rattle.sift_exec.proofs.Accusing.{accusers}

-- the count is that of the accusers among the units seen
abbrev pub invariant-loop-position : goal.invariant-loop-position
invariant-loop-position l = (l.count ≡ accusers (names_by l.fn.config l.fn.masks) (take l.position l.fn.config) l.fn.accused) × (l.count ≤ l.position)
