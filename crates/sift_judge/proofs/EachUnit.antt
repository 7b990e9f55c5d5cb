-- A test of each unit of a mission in turn.
use Rattle.std.proofs.Common.{◌≡◌, ℕ, zero, suc, ◌+◌, ◌<◌, ◌≤◌, List, length, Some, inl, inr, refl, ap, ◌∙◌, subst, arith}
use Rattle.std.specs.Prelude.{slice_get}
use Rattle.std.specs.List.{range_with_len}
use Rattle.std.proofs.lemmas.Bool.{cases_lt}
use Rattle.sift_judge.proofs.UnitSets.{place_first}

-- so many units are so many
pub length_first : (a n : ℕ) → length (range_with_len a n) ≡ n
length_first a zero = refl
length_first a (suc n) = omega (arith, length_first (a + 1) n)

module _ (P : ℕ → Type 0) (n : ℕ) (units : List ℕ) (is : units ≡ range_with_len 0 n) (i u : ℕ) (there : slice_get units i ≡ Some u) where
  abbrev at : (u ≡ 0 + i) × (i < n)
  at = place_first 0 n i u (subst (λ us. slice_get us i ≡ Some u) is there)

  pub below : u < n
  below = omega (arith, at.0, at.1)

  -- what holds of the units so far and of this one holds of one more
  pub one_more : ((v : ℕ) → v < i → P v) → P u → (v : ℕ) → v < i + 1 → P v
  one_more before here v low = elim (cases_lt v i) [
    | inl small ↦ before v small
    | inr over ↦ (let e : u ≡ v = omega (arith, low, over, at.0) in subst P e here)
  ]

  -- where it doesn't hold of this one, it doesn't of all
  pub falls : ¬ P u → ((v : ℕ) → v < n → P v) → ⊥
  falls fails all = fails (all u below)

-- all have been tested
pub all_tested : (P : ℕ → Type 0) (n i : ℕ) (units : List ℕ) → units ≡ range_with_len 0 n → length units ≤ i → ((v : ℕ) → v < i → P v) → (v : ℕ) → v < n → P v
all_tested P n i units is seen so_far v low = let count = ap length is ∙ length_first 0 n in so_far v (omega (arith, seen, count, low))
