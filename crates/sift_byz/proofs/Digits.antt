-- Rows and places of charts, as numbers to the base n.
use Rattle.std.proofs.Common.{◌≡◌, ℕ, suc, ◌+◌, ◌*◌, ◌/◌, ◌%◌, ◌^◌, ◌<◌, ◌≤◌, sym, ap, ◌∙◌, subst, arith}
use Rattle.std.proofs.lemmas.Nat.{div_below, mod-mul-add}
use Rattle.std.proofs.Math.Nat.{div-le_self, mul-le-mul_right, pow-le-pow_left, pow-le-pow_right, pow-suc, pow-zero}

-- a number to the power of one, and of two
pub pow-one : (n : ℕ) → n ^ 1 ≡ n
pow-one n = pow-suc n 0 ∙ ap (λ x. x * n) (pow-zero n) ∙ omega arith

-- a number to the power of two is the number times itself
pub square : (n : ℕ) → n ^ 2 ≡ n * n
square n = pow-suc n 1 ∙ ap (λ x. x * n) (pow-one n)

-- a number of one digit
pub one_digit : (i n : ℕ) → i < n → i % n ≡ i
one_digit i n low = let e : i ≡ 0 * n + i = omega arith in ap (λ x. x % n) e ∙ mod-mul-add 0 n i low

-- one digit more
pub digit_below : (n m row u : ℕ) → row < m → u < n → row * n + u < m * n
digit_below n m row u row_low u_low =
    let most : suc row * n ≤ m * n = mul-le-mul_right n row_low in
    let split : suc row * n ≡ row * n + n = grind arith in
    omega arith

-- a number of k digits to the base n, with one digit more behind it, is below the power k + 1 of n
pub longer : (n k row u : ℕ) → row < n ^ k → u < n → row * n + u < n ^ suc k
longer n k row u row_low u_low = subst (λ x. row * n + u < x) (sym (pow-suc n k)) (digit_below n (n ^ k) row u row_low u_low)

-- one digit fewer
pub shorter : (n k place : ℕ) → 0 < n → place < n ^ suc k → place / n < n ^ k
shorter n k place some low = div_below place n (n ^ k) some (subst (λ x. place < x) (pow-suc n k) low)

-- the place of a relay is in the chart of the longer paths
pub relay_within : (n k place r q : ℕ) → 0 < n → place < n ^ suc k → r < n → q < n → (place / n * n + r) * n + q < n ^ suc (suc k)
relay_within n k place r q some low r_low q_low = longer n (suc k) (place / n * n + r) q (longer n k (place / n) r (shorter n k place some low) r_low) q_low

-- ---- charts are small

-- a chart of paths of at most three units has few places
pub few_places : (n k : ℕ) → n ≤ 10 → k ≤ 3 → n ^ suc k ≤ 10000
few_places n k ten three =
    let base : n ^ suc k ≤ 10 ^ suc k = pow-le-pow_left ten (suc k) in
    let most : 10 ^ suc k ≤ 10 ^ 4 = pow-le-pow_right {n = 10} (omega arith) {i = suc k} {j = 4} (omega arith) in
    omega arith

-- and so few rows
pub few_rows : (n k place : ℕ) → n ≤ 10 → k ≤ 3 → place < n ^ suc k → place / n ≤ 10000
few_rows n k place ten three low = omega (arith, few_places n k ten three, div-le_self place n)
