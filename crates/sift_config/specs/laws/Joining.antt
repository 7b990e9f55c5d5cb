-- A set of those units of a list that pass a test, found unit by unit.
use Rattle.std.proofs.Common.{◌≡◌, ℕ, Bool, true, false, ◌&&◌, ◌||◌, nat_eq, ap, ◌∙◌, sym, refl, inl, inr}
use Rattle.std.specs.FinSet as set
use Rattle.std.proofs.lemmas.Bool.{cases_Bool, eqb-true, eq-eqb, ne_eqb, eqb-false}
use Rattle.sift_base.specs.Units.{Units, holds}
use Rattle.sift_base.specs.laws.Sets.{holds-insert}
use Rattle.sift_base.specs.laws.ReadBack.{false_last, or_false}

module _ (found : Units) (seen test : ℕ → Bool) (t : ℕ) (are : (u : ℕ) → holds found u ≡ (seen u && test u)) where
  -- one unit more that passes
  pub passing_joins : test t ≡ true → (u : ℕ) → holds (set.insert found t) u ≡ ((seen u || nat_eq t u) && test u)
  passing_joins passes u = holds-insert found t u ∙ elim (cases_Bool (nat_eq t u)) [
    | inl same ↦ let e : t ≡ u = eqb-true t u same in rw (same, eq-eqb u t (sym e), sym (ap test e) ∙ passes) (sym (or_true (seen u)))
    | inr other ↦ rw (other, ne_eqb u t (λ e. eqb-false t u other (sym e))) (are u ∙ rw (or_false (seen u)) refl)
  ]
    where
      or_true : (b : Bool) → ((b || true) && true) ≡ true
      or_true true = refl
      or_true false = refl

  -- one unit more that doesn't
  pub failing_stays : test t ≡ false → (u : ℕ) → holds found u ≡ ((seen u || nat_eq t u) && test u)
  failing_stays fails u = are u ∙ elim (cases_Bool (nat_eq t u)) [
    | inl same ↦ let f : test u ≡ false = sym (ap test (eqb-true t u same)) ∙ fails in rw f (false_last (seen u) ∙ sym (false_last (seen u || nat_eq t u)))
    | inr other ↦ rw (other) (ap (λ b. b && test u) (sym (or_false (seen u))))
  ]
