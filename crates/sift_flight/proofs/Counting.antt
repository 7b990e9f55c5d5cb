-- How many units of a list pass a test.
use Rattle.std.proofs.Common.{◌≡◌, ◌≢◌, inl, inr, ℕ, ◌<◌, ◌≤◌, List, [], ◌∷◌, Bool, true, sym, arith}
use Rattle.std.specs.Prelude.{count_by}
use Rattle.std.proofs.lemmas.Bool.{cases_Bool}
use Rattle.sift_base.specs.Units.{has, others}
use Rattle.sift_base.specs.laws.Counts.{count-no, count-yes, has-head, has-tail}
use Rattle.sift_base.specs.laws.Others.{count-others-<, others-has}

-- where two units of the list pass, the count is above 1
pub two_count : (p : ℕ → Bool) (us : List ℕ) (q r : ℕ) → has us q ≡ true → has us r ≡ true → q ≢ r → p q ≡ true → p r ≡ true → 1 < count_by p us
two_count p us q r hq hr ne pq pr =
    omega (arith, count-others-< p q us hq pq, count-others-< p r (others q us) (others-has q us r hr (λ e. ne (sym e))) pr)

-- where each unit of it that passes one test passes another, no more pass the first
pub count-≤ : (p q : ℕ → Bool) (us : List ℕ) → ((v : ℕ) → has us v ≡ true → p v ≡ true → q v ≡ true) → count_by p us ≤ count_by q us
count-≤ p q [] passes = omega arith
count-≤ p q (u ∷ us) passes =
    let rest = count-≤ p q us (λ v hv. passes v (has-tail u us v hv)) in
    elim (cases_Bool (p u)) [
      | inl t ↦ omega (arith, rest, count-yes p u us t, count-yes q u us (passes u (has-head u us) t))
      | inr f ↦ elim (cases_Bool (q u)) [
        | inl t ↦ omega (arith, rest, count-no p u us f, count-yes q u us t)
        | inr g ↦ omega (arith, rest, count-no p u us f, count-no q u us g)
      ]
    ]
