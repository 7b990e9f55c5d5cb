use Rattle.std.proofs.Common.{◌≡◌, drop, map}
use Rattle.sift_byz.specs.Plan.{first_lie, lie_of}
use Rattle.sift_byz.proofs.exchanging.first_lie.Given as goal

-- the lies that are left tell what all tell
abbrev pub invariant-loop-lie : goal.invariant-loop-lie
invariant-loop-lie l = record { left : first_lie (map lie_of (drop l.lie-index l.lies)) l.written l.to ≡ first_lie (map lie_of l.lies) l.written l.to }
