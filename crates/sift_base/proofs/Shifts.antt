-- Shifts by 16 and more: nothing of the word is left.
use Rattle.std.proofs.Common.{◌≡◌, ℕ, ◌+◌, ◌-◌, ◌*◌, ◌%◌, ◌^◌, ◌<◌, ◌≤◌, Option, Some, None, SomeIff, lit<, arith, ap, ◌∙◌, sym}
use Rattle.std.specs.Prelude.{unwrap_or}
use Rattle.std.proofs.lemmas.Nat.{pow-add}
use Rattle.std.proofs.Math.Nat.{mul-mod_left, div-eq_of_lt, pow-le-pow_right}
use Rattle.sift_base.specs.Word.{shl, shr}

-- a far shift up leaves no bit in the word
shl-far : (a b : ℕ) → 16 ≤ b → shl a b ≡ 0
shl-far a b far =
    let parts : b ≡ (b - 16) + 16 = omega arith in
    let power : 2 ^ b ≡ 2 ^ (b - 16) * 2 ^ 16 = ap (λ n. 2 ^ n) parts ∙ pow-add 2 (b - 16) 16 in
    let product : a * 2 ^ b ≡ (a * 2 ^ (b - 16)) * 2 ^ 16 = rw power (grind arith) in
    ap (λ n. n % 2 ^ 16) product ∙ mul-mod_left (a * 2 ^ (b - 16)) (2 ^ 16)

-- a far shift down leaves no bit
shr-far : (a b : ℕ) → a < 2 ^ 16 → 16 ≤ b → shr a b ≡ 0
shr-far a b fits far =
    let power : 2 ^ 16 ≤ 2 ^ b = pow-le-pow_right (lit< tt) far in
    div-eq_of_lt (omega arith)

-- the shift where there is one, else 0
pub shl-or_zero : (a b : ℕ) (shifted : Option ℕ) → SomeIff shifted (b < 16) (shl a b) → unwrap_or shifted 0 ≡ shl a b
shl-or_zero a b (Some n) h = h.1
shl-or_zero a b None h = sym (shl-far a b (omega arith))

-- the shift where there is one, else 0
pub shr-or_zero : (a b : ℕ) → a < 2 ^ 16 → (shifted : Option ℕ) → SomeIff shifted (b < 16) (shr a b) → unwrap_or shifted 0 ≡ shr a b
shr-or_zero a b fits (Some n) h = h.1
shr-or_zero a b fits None h = sym (shr-far a b fits (omega arith))
