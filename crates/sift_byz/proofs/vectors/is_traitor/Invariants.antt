use Rattle.std.proofs.Common.{◌≡◌, drop, map}
use Rattle.sift_byz.specs.Plan.{lie_of, tells_some}
use Rattle.sift_byz.proofs.vectors.is_traitor.Given as goal

-- it is up to the lies that are left
abbrev pub invariant-loop-lie : goal.invariant-loop-lie
invariant-loop-lie l = record { left : tells_some (map lie_of (drop l.lie-index l.plan.lies.items)) l.unit ≡ tells_some (map lie_of l.plan.lies.items) l.unit }
