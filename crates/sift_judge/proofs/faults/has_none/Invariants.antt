use Rattle.std.proofs.Common.{◌≡◌, false}
use Rattle.std.specs.List.{AllWithin}
use Rattle.sift_base.specs.Units.{holds}
use Rattle.sift_judge.proofs.faults.has_none.Given as goal

-- the set has none of the units so far
abbrev pub invariant-loop-unit : goal.invariant-loop-unit
invariant-loop-unit l = AllWithin (λ v. holds l.caught v ≡ false) l.units 0 l.unit-index
