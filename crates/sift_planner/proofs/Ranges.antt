-- Consecutive numbers.
use Rattle.std.proofs.Common.{◌≡◌, ℕ, zero, suc, ◌+◌, ◌<◌, ◌≤◌, [], ◌∷◌, take, Bool, true, false, ◌||◌, refl, ap, ◌∙◌, arith}
use Rattle.std.specs.List.{list_any, range_with_len}
use Rattle.std.proofs.lemmas.List.Folds.{list_any-append, list_any_at}
use Rattle.std.proofs.lemmas.List.FromFn.{get_or-range_with_len, length-range_with_len}
use Rattle.sift_base.specs.laws.Ranges.{range-more}
use Rattle.sift_base.specs.laws.ReadBack.{or_false}

-- the first numbers of a range are one
pub take-range : (a k n : ℕ) → k ≤ n → take k (range_with_len a n) ≡ range_with_len a k
take-range a zero n few = refl
take-range a (suc k) zero few = absurd (omega (arith, few))
take-range a (suc k) (suc n) few = ap (λ rest. a ∷ rest) (take-range (a + 1) k n (omega (arith, few)))

-- ---- tests of the numbers below a bound

-- one number more is tested
pub any_more : (f : ℕ → Bool) (n : ℕ) → list_any f (range_with_len 0 (suc n)) ≡ (list_any f (range_with_len 0 n) || f n)
any_more f n =
    ap (list_any f) (range-more 0 n) ∙ list_any-append f (range_with_len 0 n) ((0 + n) ∷ [])
    ∙ ap (λ b. list_any f (range_with_len 0 n) || b) (or_false (f (0 + n)) ∙ ap f (let e : 0 + n ≡ n = omega arith in e))

-- a test that no number below the bound passes
pub any_none : (f : ℕ → Bool) (n : ℕ) → ((d : ℕ) → d < n → f d ≡ false) → list_any f (range_with_len 0 n) ≡ false
any_none f zero none = refl
any_none f (suc n) none = any_more f n ∙ ap (λ b. b || f n) (any_none f n (λ d low. none d (omega (arith, low)))) ∙ none n (omega arith)

-- a test that one of them passes
pub any_one : (f : ℕ → Bool) (n d : ℕ) → d < n → f d ≡ true → list_any f (range_with_len 0 n) ≡ true
any_one f n d low here =
    list_any_at f (range_with_len 0 n) d 0 (omega (arith, low, length-range_with_len 0 n))
    (ap f (get_or-range_with_len 0 n d 0 low ∙ (let e : 0 + d ≡ d = omega arith in e)) ∙ here)
