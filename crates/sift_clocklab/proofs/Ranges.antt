-- Numbers in a row, and those of them other than one.
use Rattle.std.proofs.Common.{◌≡◌, ◌≢◌, ℕ, zero, suc, ◌+◌, ◌<◌, ◌≤◌, inl, inr, [], ◌∷◌, ◌++◌, length, true, false, not, nat_eq, refl, ap, ◌∙◌, zero-add, arith}
use Rattle.std.specs.List.{range_with_len}
use Rattle.std.proofs.lemmas.Bool.{cases_Bool, eqb-true, ne_eqb, eqb-false, eq-eqb}
use Rattle.std.proofs.lemmas.List.{append-nil}
use Rattle.std.proofs.lemmas.List.Elements.{filter-append}
use Rattle.sift_base.specs.Units.{others}
use Rattle.sift_base.specs.laws.Ranges.{range-more}

-- a number more that is another one
pub others-more_other : (u n : ℕ) → n ≢ u
    → others u (range_with_len 0 (suc n)) ≡ others u (range_with_len 0 n) ++ n ∷ []
others-more_other u n differ =
    ap (others u) (range-more 0 n) ∙ (filter-append (λ v. not (nat_eq v u)) (range_with_len 0 n) ((0 + n) ∷ [])
    ∙ (let same : 0 + n ≡ n = omega arith in rw (same, ne_eqb n u differ) refl))

-- the one, as a test tells it
is_one : (u n : ℕ) → n ≡ u → nat_eq (0 + n) u ≡ true
is_one u n same = rw (zero-add n, same) (eq-eqb u u refl)

-- a number more that is the one
pub others-more_same : (u n : ℕ) → n ≡ u → others u (range_with_len 0 (suc n)) ≡ others u (range_with_len 0 n)
others-more_same u n same =
    ap (others u) (range-more 0 n) ∙ (filter-append (λ v. not (nat_eq v u)) (range_with_len 0 n) ((0 + n) ∷ [])
    ∙ (let here : nat_eq (0 + n) u ≡ true = is_one u n same in rw here (append-nil (others u (range_with_len 0 n)))))

-- none of the numbers past one is that one
others-past : (u a n : ℕ) → u < a → length (others u (range_with_len a n)) ≡ n
others-past u a zero past = refl
others-past u a (suc n) past =
    let differ : nat_eq a u ≡ false = ne_eqb a u (λ same. omega arith) in
    rw differ (ap suc (others-past u (a + 1) n (omega arith)))

-- one of the numbers in a row is that one
pub length-others-range : (u a n : ℕ) → a ≤ u → u < a + n → length (others u (range_with_len a n)) + 1 ≡ n
length-others-range u a zero least most = absurd (omega arith)
length-others-range u a (suc n) least most =
    elim (cases_Bool (nat_eq a u)) [
      | inl t ↦ rw t (omega (arith, others-past u (a + 1) n (let same = eqb-true a u t in omega arith)))
      | inr f ↦ rw f (let differ = eqb-false a u f in omega (arith, length-others-range u (a + 1) n (omega arith) (omega arith)))
    ]
