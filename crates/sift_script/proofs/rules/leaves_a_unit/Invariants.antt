use Rattle.std.proofs.Common.{◌≡◌, ℕ, ◌<◌, true, map}
use Rattle.sift_base.specs.Units.{has}
use Rattle.sift_script.proofs.rules.leaves_a_unit.Given as goal

-- each unit so far is named
abbrev pub invariant-loop-unit : goal.invariant-loop-unit
invariant-loop-unit l = (u : ℕ) → u < l.unit → has (map (λ entry. entry.unit) l.entries) u ≡ true
