use Rattle.std.proofs.Common.{◌≡◌, ℕ, take}
use Rattle.sift_base.specs.Units.{has, holds}
use Rattle.sift_line.proofs.number.set_of.Given as goal

-- the set holds the units so far
abbrev pub invariant-loop-unit : goal.invariant-loop-unit
invariant-loop-unit l = (u : ℕ) → holds l.set u ≡ has (take l.unit-index l.units) u
