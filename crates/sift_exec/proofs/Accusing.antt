-- Counting accusers: unit by unit, with the report at each position.
use Rattle.std.proofs.Common.{◌≡◌, ℕ, zero, suc, ◌+◌, Bool, not, ◌&&◌, cond, nat_eq, List, [], ◌∷◌, length, take, get_or, slice_get, Some, unwrap_or, arith, ap, ◌∙◌, refl, inl, inr}
use Rattle.std.specs.Prelude.{count_by}
use Rattle.std.proofs.lemmas.Bool.{cases_Bool, eq-eqb, ne_eqb}
use Rattle.sift_base.specs.Units.{others, IsAscending}
use Rattle.sift_base.specs.laws.Counts.{count-cons, has_place}
use Rattle.sift_base.specs.laws.Sets.{below_has}
use Rattle.sift_exec.specs.Conviction.{report_by}

-- how many units other than u name u in their reports
abbrev pub accusers : (ℕ → ℕ → Bool) → List ℕ → ℕ → ℕ
accusers names us u = count_by (λ r. names r u) (others u us)

-- the report of the unit at a position is the one at that position
pub report_at : (us reports : List ℕ) (i t d : ℕ) → IsAscending us → length reports ≡ length us → slice_get us i ≡ Some t → report_by us reports t ≡ get_or reports i d
report_at [] reports i t d up same at = absurd cc
report_at (u ∷ us) [] i t d up same at = absurd (omega arith)
report_at (u ∷ us) (r ∷ reports) zero t d up same at = let e : u ≡ t = ap (λ o. unwrap_or o t) at in rw (eq-eqb u t e) refl
report_at (u ∷ us) (r ∷ reports) (suc i) t d up same at =
    rw (ne_eqb u t (λ e. omega (arith, below_has u us t up.0 (has_place us i t at)))) (report_at us reports i t d up.1 (omega arith) at)

-- what a unit adds to the accusers of another
abbrev pub accuses : (ℕ → ℕ → Bool) → ℕ → ℕ → ℕ
accuses names r u = cond (not (nat_eq r u) && names r u) 1 0

-- the accusers among one unit more
accusers-cons : (names : ℕ → ℕ → Bool) (v : ℕ) (us : List ℕ) (u : ℕ) → accusers names (v ∷ us) u ≡ accuses names v u + accusers names us u
accusers-cons names v us u = elim (cases_Bool (nat_eq v u)) [
  | inl t ↦ rw t (omega arith)
  | inr f ↦ rw f (count-cons (λ r. names r u) v (others u us))
]

-- the accusers among the first units and one more
pub accusers-front : (names : ℕ → ℕ → Bool) (us : List ℕ) (i t u : ℕ) → slice_get us i ≡ Some t
    → accusers names (take (suc i) us) u ≡ accusers names (take i us) u + accuses names t u
accusers-front names [] i t u at = absurd cc
accusers-front names (v ∷ us) zero t u at =
    let e : v ≡ t = ap (λ o. unwrap_or o t) at in
    rw e (accusers-cons names t [] u ∙ omega arith)
accusers-front names (v ∷ us) (suc i) t u at =
    omega (arith, accusers-cons names v (take (suc i) us) u, accusers-cons names v (take i us) u, accusers-front names us i t u at)
