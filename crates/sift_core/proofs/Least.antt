-- The least unit among those below a number.
use Rattle.std.proofs.Common.{◌≡◌, ℕ, ◌*◌, ◌<◌, ◌≤◌, List, true, Option, Some, None, IfSome, IfNone, sym, subst, arith}
use Rattle.sift_base.specs.Units.{has}
use Rattle.sift_config.specs.laws.FirstUnits.{low_unit}
use Rattle.sift_mission.specs.Data.{FlownMission}
use Rattle.sift_core.specs.Machines.{IsFlying, layout_of, progress_at}
use Rattle.sift_core.specs.Turns.{IsLeast, AreAllDown}
use Rattle.sift_core.specs.declared.machine.Machine.{Machine}
use Rattle.sift_core.proofs.MachineSteps.{unit_below}

-- none was found yet, and the bound is the end; or this one, and the bound is its progress
abbrev pub IsFound : FlownMission → Machine → ℕ → ℕ → Option ℕ → Type 0
IsFound m x n below None = below ≡ m.frames * m.period
IsFound m x n below (Some v) = (v < n) × (below ≡ progress_at x v) × (below < m.frames * m.period) × ((p : ℕ) → p < v → below < progress_at x p)

-- and no unit below n has less progress than the bound
pub record IsLeastBelow (m : FlownMission) (x : Machine) (n below : ℕ) (found : Option ℕ) : Type 0 where
  pub found_is : IsFound m x n below found
  pub none_less : (p : ℕ) → p < n → below ≤ progress_at x p

-- the least of all
pub least_found : (m : FlownMission) (x : Machine) (n below v : ℕ) → IsFlying m x → n ≡ (layout_of x).units → IsLeastBelow m x n below (Some v) →
    IsLeast m x v
least_found m x n below v flying all l = record {
  unit = subst (λ (us : List ℕ). has us v ≡ true) (sym flying.1.units) (low_unit (layout_of x).units v (let a = l.found_is.0 in omega arith));
  aloft = (let a = l.found_is.1 in let b = l.found_is.2 in omega arith);
  least = λ p there. let low = unit_below m x p flying there in let a = l.found_is.1 in let b = l.none_less p (omega arith) in omega arith;
  lowest = λ p low. let a = l.found_is.1 in let b = l.found_is.3 p low in omega arith;
}

-- or none is left
pub least_none : (m : FlownMission) (x : Machine) (n below : ℕ) → IsFlying m x → n ≡ (layout_of x).units → IsLeastBelow m x n below None → AreAllDown m x
least_none m x n below flying all l u there = let low = unit_below m x u flying there in let a = l.found_is in let b = l.none_less u
    (omega arith) in omega arith

-- what was found in the end
pub least_ends : (m : FlownMission) (x : Machine) (n below : ℕ) (found : Option ℕ) → IsFlying m x → n ≡ (layout_of x).units → IsLeastBelow m x n below found →
    IfSome found (λ v. IsLeast m x v) × IfNone found (AreAllDown m x)
least_ends m x n below None flying all l = (tt, least_none m x n below flying all l)
least_ends m x n below (Some v) flying all l = (least_found m x n below v flying all l, tt)
