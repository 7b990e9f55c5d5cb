-- Sums and products that stop at the most that is kept.
use Rattle.std.specs.Prelude.{◌⊎◌}
use Rattle.std.proofs.Common.{◌≡◌, inl, inr, zero, suc, ℕ, ◌+◌, ◌*◌, ◌<◌, ◌≤◌, min, sym, ap, ◌∙◌, arith}
use Rattle.std.proofs.lemmas.Bool.{cases_lt}
use Rattle.std.proofs.Math.Nat.{le-mul_of_pos_right}
use Rattle.sift_code.specs.Bound.{kept, kept_limit}

-- a product of what is kept
kept-mul : (p k : ℕ) → min (kept p * k) kept_limit ≡ kept (k * p)
kept-mul p k = by (cases_lt kept_limit p)
  where
    many : (k : ℕ) → kept_limit < p → min (kept p * k) kept_limit ≡ kept (k * p)
    many zero lt = grind arith
    many (suc m) lt =
        let a : kept p ≤ kept p * suc m = le-mul_of_pos_right (kept p) (omega arith) in
        let b : p ≤ p * suc m = le-mul_of_pos_right p (omega arith) in
        let c : suc m * p ≡ p * suc m = grind arith in
        let d : kept p ≡ kept_limit = grind arith in
        let e : min (kept p * suc m) kept_limit ≡ kept_limit = grind arith in
        let f : kept (suc m * p) ≡ kept_limit = grind arith in
        e ∙ sym f

    by : (kept_limit < p) ⊎ (p ≤ kept_limit) → min (kept p * k) kept_limit ≡ kept (k * p)
    by (inr le) =
        let same : kept p ≡ p = grind arith in
        ap (λ n. min (n * k) kept_limit) same ∙ ap (λ n. min n kept_limit) (grind arith)
    by (inl lt) = many k lt

-- the steps of so many rounds, and one more, where what is kept of a round's is counted
pub kept_rounds :
    (body all rounds : ℕ) → body ≡ kept all
    → min (min (min (body + 1) kept_limit * rounds) kept_limit + 1) kept_limit ≡ kept (rounds * (all + 1) + 1)
kept_rounds body all rounds is =
    let round : min (body + 1) kept_limit ≡ kept (all + 1) = omega (arith, is) in
    let times : min (min (body + 1) kept_limit * rounds) kept_limit ≡ kept (rounds * (all + 1)) =
    ap (λ n. min (n * rounds) kept_limit) round ∙ kept-mul (all + 1) rounds in
    omega (arith, times)
