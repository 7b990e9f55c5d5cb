-- The other units of a list, and where one unit is faulty at most.
use Rattle.std.proofs.Common.{◌≡◌, ◌≢◌, ℕ, ◌+◌, ◌<◌, ◌≤◌, inl, inr, List, [], ◌∷◌, length, Bool, true, false, not, nat_eq, refl, sym, ap, ◌∙◌, subst, arith}
use Rattle.std.specs.Prelude.{count_by}
use Rattle.std.proofs.lemmas.Bool.{cases_Bool, eqb-true, ne_eqb, eqb-false, not-true}
use Rattle.sift_base.specs.Units.{has, others, IsAscending, faulty_count, HasMargin}
use Rattle.sift_base.specs.laws.Counts.{count-cons, count-yes, count-no, has-tail, IsBelowAll}

-- how often a unit stands in a list
abbrev pub times_in : ℕ → List ℕ → ℕ
times_in u us = count_by (λ v. nat_eq v u) us

-- a test says that two units are different
pub told_apart : (u v : ℕ) → not (nat_eq u v) ≡ true → u ≢ v
told_apart u v told = eqb-false u v (not-true (nat_eq u v) told)

-- a unit below all of a list isn't in it
times_in-below : (u : ℕ) (us : List ℕ) → IsBelowAll u us → times_in u us ≡ 0
times_in-below u [] below = refl
times_in-below u (v ∷ us) below =
    omega (arith, count-no (λ x. nat_eq x u) v us (ne_eqb v u (λ same. omega (arith, below.0))), times_in-below u us below.1)

-- an ascending list has each unit at most once
pub times_in-ascending : (u : ℕ) (us : List ℕ) → IsAscending us → times_in u us ≤ 1
times_in-ascending u [] ascending = omega arith
times_in-ascending u (v ∷ us) ascending =
    elim (cases_Bool (nat_eq v u)) [
      | inl t ↦
          let rest = subst (λ x. times_in x us ≡ 0) (eqb-true v u t) (times_in-below v us ascending.0) in
          omega (arith, count-yes (λ x. nat_eq x u) v us t)
      | inr f ↦ omega (arith, count-no (λ x. nat_eq x u) v us f, times_in-ascending u us ascending.1)
    ]

-- a unit that isn't in a list differs from all that are
pub times_in-none : (u : ℕ) (us : List ℕ) → times_in u us ≡ 0 → (r : ℕ) → has us r ≡ true → r ≢ u
times_in-none u [] none r r_in = absurd cc
times_in-none u (v ∷ us) none r r_in =
    elim (cases_Bool (nat_eq v u)) [
      | inl t ↦ absurd (omega (arith, count-yes (λ x. nat_eq x u) v us t))
      | inr f ↦ elim (cases_Bool (nat_eq v r)) [
        | inl same ↦ subst (λ x. x ≢ u) (eqb-true v r same) (eqb-false v u f)
        | inr other ↦ times_in-none u us (sym (count-no (λ x. nat_eq x u) v us f) ∙ none) r (rw other at r_in)
      ]
    ]

-- a list is its others, and so often as it has the unit
pub length-others : (u : ℕ) (us : List ℕ) → length us ≡ times_in u us + length (others u us)
length-others u [] = omega arith
length-others u (v ∷ us) =
    let rest = length-others u us in
    elim (cases_Bool (nat_eq v u)) [
      | inl t ↦ rw (count-yes (λ x. nat_eq x u) v us t, t) (omega arith)
      | inr f ↦ rw (count-no (λ x. nat_eq x u) v us f, f) (omega arith)
    ]

-- so they are no more than all
pub length-others-≤ : (u : ℕ) (us : List ℕ) → length (others u us) ≤ length us
length-others-≤ u us = omega (arith, length-others u us)

-- no more of the others pass a test than of all
pub count-others-≤ : (p : ℕ → Bool) (u : ℕ) (us : List ℕ) → count_by p (others u us) ≤ count_by p us
count-others-≤ p u [] = omega arith
count-others-≤ p u (v ∷ us) =
    let rest = count-others-≤ p u us in
    let here = count-cons p v us in
    elim (cases_Bool (nat_eq v u)) [
      | inl t ↦ rw t (omega arith)
      | inr f ↦ rw f (omega (arith, count-cons p v (others u us)))
    ]

-- fewer, where the unit passes
pub count-others-< : (p : ℕ → Bool) (u : ℕ) (us : List ℕ) → has us u ≡ true → p u ≡ true → count_by p (others u us) < count_by p us
count-others-< p u [] u_in passes = absurd cc
count-others-< p u (v ∷ us) u_in passes =
    elim (cases_Bool (nat_eq v u)) [
      | inl t ↦ rw (t, count-yes p v us (ap p (eqb-true v u t) ∙ passes)) (omega (arith, count-others-≤ p u us))
      | inr f ↦
          let rest = count-others-< p u us (rw f at u_in) passes in
          rw f (omega (arith, count-cons p v us, count-cons p v (others u us)))
    ]

-- another unit of a list is a unit of the list, and another
pub has-others : (u : ℕ) (us : List ℕ) (r : ℕ) → has (others u us) r ≡ true → (has us r ≡ true) × (r ≢ u)
has-others u [] r r_in = absurd cc
has-others u (v ∷ us) r r_in =
    elim (cases_Bool (nat_eq v u)) [
      | inl t ↦ let rest = has-others u us r (rw t at r_in) in (has-tail v us r rest.0, rest.1)
      | inr f ↦ elim (cases_Bool (nat_eq v r)) [
        | inl same ↦ (rw same, subst (λ x. x ≢ u) (eqb-true v r same) (eqb-false v u f))
        | inr other ↦ let rest = has-others u us r (rw other at (rw f at r_in)) in (has-tail v us r rest.0, rest.1)
      ]
    ]

-- and the other way round
pub others-has : (u : ℕ) (us : List ℕ) (r : ℕ) → has us r ≡ true → r ≢ u → has (others u us) r ≡ true
others-has u [] r r_in differ = r_in
others-has u (v ∷ us) r r_in differ =
    elim (cases_Bool (nat_eq v u)) [
      | inl t ↦ rw t (others-has u us r (rw (ne_eqb v r (λ same. differ (sym same ∙ eqb-true v u t))) at r_in) differ)
      | inr f ↦ rw f (elim (cases_Bool (nat_eq v r)) [
        | inl same ↦ rw same
        | inr other ↦ rw other (others-has u us r (rw other at r_in) differ)
      ])
    ]

-- where none of a list is faulty, each works
none_faulty : (works : ℕ → Bool) (us : List ℕ) → faulty_count works us ≡ 0 → (r : ℕ) → has us r ≡ true → works r ≡ true
none_faulty works [] none r r_in = absurd cc
none_faulty works (v ∷ us) none r r_in =
    elim (cases_Bool (works v)) [
      | inl t ↦ elim (cases_Bool (nat_eq v r)) [
        | inl same ↦ subst (λ x. works x ≡ true) (eqb-true v r same) t
        | inr other ↦ none_faulty works us (sym (count-no (λ x. not (works x)) v us (ap not t)) ∙ none) r (rw other at r_in)
      ]
      | inr f ↦ absurd (omega (arith, count-yes (λ x. not (works x)) v us (ap not f)))
    ]

-- with margin, all others of a faulty unit work
pub others_work : (works : ℕ → Bool) (us : List ℕ) (s : ℕ) → HasMargin works us → has us s ≡ true → works s ≡ false
    → (r : ℕ) → has (others s us) r ≡ true → works r ≡ true
others_work works us s margin s_in s_faulty =
    none_faulty works (others s us)
    (omega (arith, count-others-< (λ x. not (works x)) s us s_in (ap not s_faulty), margin.few))
