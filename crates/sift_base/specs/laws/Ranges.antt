-- Numbers in turn: the list from one on, of so many.
use Rattle.std.proofs.Common.{◌≡◌, ℕ, zero, suc, ◌+◌, ◌<◌, ◌≤◌, [], ◌∷◌, ◌++◌, true, false, nat_eq, inl, inr, refl, ap, ◌∙◌, arith, Bool}
use Rattle.std.specs.List.{All, range_with_len, list_any}
use Rattle.std.proofs.lemmas.List.{map-id}
use Rattle.std.proofs.lemmas.List.Elements.{All-from_get_or}
use Rattle.std.proofs.lemmas.List.FromFn.{get_or-range_with_len, length-range_with_len, map-range_with_len_more}
use Rattle.std.proofs.lemmas.Bool.{cases_Bool, cases_eq, cases_lt, eqb-true, eq-eqb}
use Rattle.sift_base.specs.Units.{has, IsAscending}
use Rattle.sift_base.specs.laws.Counts.{IsBelowAll}

-- ---- which they are

-- a list of numbers in turn has those from the first to below the end
pub has-range : (a n u : ℕ) → a ≤ u → u < a + n → has (range_with_len a n) u ≡ true
has-range a zero u low high = absurd (omega arith)
has-range a (suc n) u low high = elim (cases_Bool (nat_eq a u)) [
  | inl same ↦ rw same refl
  | inr other ↦ rw other (has-range (a + 1) n u (omega (arith, later a u low other)) (omega arith))
]
  where
    later : (x y : ℕ) → x ≤ y → nat_eq x y ≡ false → x + 1 ≤ y
    later x y low' other = elim (cases_eq x y) [
      | inl same ↦ absurd (cc (eq-eqb x y same, other))
      | inr differ ↦ elim (cases_lt x y) [ inl less ↦ omega arith | inr more ↦ absurd (differ (omega arith)) ]
    ]

-- and no others
pub range-has : (a n u : ℕ) → has (range_with_len a n) u ≡ true → (a ≤ u) × (u < a + n)
range-has a zero u there = absurd cc
range-has a (suc n) u there = elim (cases_Bool (nat_eq a u)) [
  | inl same ↦ let e = eqb-true a u same in (omega arith, omega arith)
  | inr other ↦ let rest = range-has (a + 1) n u (rw other at there) in (omega (arith, rest.0), omega (arith, rest.1))
]

-- so they are below the end
pub range-low : (a n u : ℕ) → has (range_with_len a n) u ≡ true → u < a + n
range-low a n u there = (range-has a n u there).1

-- all numbers below a count are below it
pub range-below : (n : ℕ) → All (λ p. p < n) (range_with_len 0 n)
range-below n =
    let count = length-range_with_len 0 n in
    All-from_get_or (λ p. p < n) (range_with_len 0 n) 0
    (λ i low. let inside : i < n = omega (arith, low, count) in rw (get_or-range_with_len 0 n i 0 inside) (omega (arith, inside)))

-- ---- in which order they are

-- what is below the first is below all
below-range : (u a n : ℕ) → u < a → IsBelowAll u (range_with_len a n)
below-range u a zero low = tt
below-range u a (suc n) low = (low, below-range u (a + 1) n (omega arith))

-- they ascend
pub range-ascends : (a n : ℕ) → IsAscending (range_with_len a n)
range-ascends a zero = tt
range-ascends a (suc n) = (below-range a (a + 1) n (omega arith), range-ascends (a + 1) n)

-- ---- one more of them

-- with one number more the last is at the end
pub range-more : (a n : ℕ) → range_with_len a (suc n) ≡ range_with_len a n ++ (a + n) ∷ []
range-more a zero = ap (λ k. k ∷ []) (omega arith)
range-more a (suc n) =
    ap (λ rest. a ∷ rest) (range-more (a + 1) n ∙ ap (λ k. range_with_len (a + 1) n ++ k ∷ []) (omega arith))

-- the numbers below one more
pub range-next : (n : ℕ) → range_with_len 0 (n + 1) ≡ range_with_len 0 n ++ n ∷ []
range-next n = simp map-id at (map-range_with_len_more (λ k. k) 0 n n (omega arith))

-- ---- tests of them

-- tests that agree at each of these numbers tell alike whether some number passes
any-same_from : (from n : ℕ) (p q : ℕ → Bool) → ((x : ℕ) → from ≤ x → x < from + n → p x ≡ q x)
    → list_any p (range_with_len from n) ≡ list_any q (range_with_len from n)
any-same_from from zero p q same = refl
any-same_from from (suc n) p q same =
    rw (same from (omega arith) (omega arith), any-same_from (from + 1) n p q (λ x low high. same x (omega arith) (omega arith))) refl

-- and below a number
pub any-same : (n : ℕ) (p q : ℕ → Bool) → ((x : ℕ) → x < n → p x ≡ q x) → list_any p (range_with_len 0 n) ≡ list_any q (range_with_len 0 n)
any-same n p q same = any-same_from 0 n p q (λ x low high. same x (omega arith))
