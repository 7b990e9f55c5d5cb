-- Within the margin, two other units that name a unit are one working unit at least.
use Rattle.std.proofs.Common.{◌≡◌, ℕ, ◌≤◌, Bool, true, false, not, ◌&&◌, cond, nat_eq, nat_lt, List, [], ◌∷◌, length, filter, count_by, arith, ap, ◌∙◌, sym, refl, inl, inr}
use Rattle.std.proofs.lemmas.Bool.{cases_Bool, eqb-true, le-ltb}
use Rattle.std.proofs.lemmas.List.Sums.{length-filter}
use Rattle.sift_base.specs.Units.{has, others, faulty_count, HasMargin}
use Rattle.sift_base.specs.laws.Counts.{count-cons, count-yes, count-no, has-head, has-tail, count-same}
use Rattle.sift_base.specs.laws.Others.{has-others, count-others-≤, others_work}
use Rattle.sift_base.specs.laws.ReadBack.{false_last}
use Rattle.sift_exec.specs.Conviction.{is_convicted, working_accusers, NamesNoWorking, ConvictionIsJust}
use Rattle.sift_exec.proofs.Accusing.{accusers}

-- ---- counts of units by tests

-- units that pass only where they are faulty are no more than the faulty ones
count_of_faulty : (works p : ℕ → Bool) (us : List ℕ) → ((r : ℕ) → has us r ≡ true → works r ≡ true → p r ≡ false) → count_by p us ≤ faulty_count works us
count_of_faulty works p [] clean = omega arith
count_of_faulty works p (v ∷ us) clean =
    let rest = count_of_faulty works p us (λ r there. clean r (has-tail v us r there)) in
    elim (cases_Bool (works v)) [
      | inl t ↦ rw (count-no p v us (clean v (has-head v us) t), count-no (λ x. not (works x)) v us (ap not t)) rest
      | inr f ↦ rw (count-yes (λ x. not (works x)) v us (ap not f)) (omega (arith, rest, count-cons p v us, at_most_one (p v)))
    ]
  where
    at_most_one : (b : Bool) → cond b 1 0 ≤ 1
    at_most_one true = omega arith
    at_most_one false = omega arith

-- where what passes one test passes another, no more pass the first
count_of_more : (p q : ℕ → Bool) (us : List ℕ) → ((r : ℕ) → has us r ≡ true → p r ≡ true → q r ≡ true) → count_by p us ≤ count_by q us
count_of_more p q [] more = omega arith
count_of_more p q (v ∷ us) more =
    let rest = count_of_more p q us (λ r there. more r (has-tail v us r there)) in
    elim (cases_Bool (p v)) [
      | inl t ↦ rw (count-yes p v us t, count-yes q v us (more v (has-head v us) t)) (omega (arith, rest))
      | inr f ↦ rw (count-no p v us f) (omega (arith, rest, count-cons q v us))
    ]

-- a unit that doesn't pass may be left out
count_without : (p : ℕ → Bool) (u : ℕ) (us : List ℕ) → p u ≡ false → count_by p (others u us) ≡ count_by p us
count_without p u [] off = refl
count_without p u (v ∷ us) off =
    let rest = count_without p u us off in
    elim (cases_Bool (nat_eq v u)) [
      | inl t ↦ rw (t, count-no p v us (ap p (eqb-true v u t) ∙ off)) rest
      | inr f ↦ rw f (omega (arith, rest, count-cons p v us, count-cons p v (others u us)))
    ]

-- no unit passes a test that fails at each
count_of_none : (p : ℕ → Bool) (us : List ℕ) → ((r : ℕ) → has us r ≡ true → p r ≡ false) → count_by p us ≡ 0
count_of_none p [] none = refl
count_of_none p (v ∷ us) none = rw (count-no p v us (none v (has-head v us))) (count_of_none p us (λ r there. none r (has-tail v us r there)))

-- ---- justice

module _ (works : ℕ → Bool) (us : List ℕ) (names : ℕ → ℕ → Bool) (margin : HasMargin works us) (clean : NamesNoWorking works names us) where
  -- no working unit is convicted: only the faulty one names it
  safe : (u : ℕ) → has us u ≡ true → works u ≡ true → is_convicted names us u ≡ false
  safe u there working =
      let few = count_of_faulty works (λ r. names r u) (others u us) (λ r in_others r_works. clean r u (has-others u us r in_others).0 r_works there working) in
      rw (le-ltb 1 (accusers names us u) (omega (arith, few, count-others-≤ (λ r. not (works r)) u us, margin.few))) (false_last (has us u))

  -- a unit is convicted exactly where two working units name it
  exact : (u : ℕ) → has us u ≡ true → is_convicted names us u ≡ nat_lt 1 (working_accusers works names us u)
  exact u there = elim (cases_Bool (works u)) [
    | inl working ↦
        let none = count_of_none (λ r. works r && names r u) us (λ r in_us. elim (cases_Bool (works r)) [ inl w ↦ rw w (clean r u in_us w there working) | inr f ↦ rw f refl ]) in
        safe u there working ∙ sym (le-ltb 1 (working_accusers works names us u) (omega (arith, none)))
    | inr faulty ↦
        let same = count-same (λ r. names r u) (λ r. works r && names r u) (others u us) (λ r in_others. rw (others_work works us u margin there faulty r in_others) refl) in
        let without = count_without (λ r. works r && names r u) u us (rw faulty refl) in
        rw there (ap (λ n. nat_lt 1 n) (same ∙ without))
  ]

  -- all working units remain
  four_remain : 4 ≤ length (filter (λ u. not (is_convicted names us u)) us)
  four_remain =
      let most = count_of_more works (λ u. not (is_convicted names us u)) us (λ r there working. ap not (safe r there working)) in
      rw (length-filter (λ u. not (is_convicted names us u)) us) (omega (arith, most, margin.enough))

-- where no working unit names a working one, conviction within the margin is just: it convicts no working unit, and exactly those that two working
-- units name, and at least four units remain
pub conviction_holds : ConvictionIsJust
conviction_holds works us names margin clean =
    record { safe = safe works us names margin clean; exact = exact works us names margin clean; enough = four_remain works us names margin clean }
