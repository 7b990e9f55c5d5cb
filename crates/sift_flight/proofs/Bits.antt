-- The bits of a report are the units of its set.
use Rattle.std.proofs.Common.{◌≡◌, ℕ, zero, suc, ◌+◌, ◌*◌, ◌<◌, ◌≤◌, ◌==◌, Bool, true, false, cond, if◌then◌else◌, refl, ap, ◌∙◌, arith}
use Rattle.std.specs.Int.{bit_at}
use Rattle.sift_base.specs.Units.{Units, holds, has_bit, bits_of}

-- a test as 1 or 0
abbrev digit : Bool → ℕ
digit b = cond b 1 0

-- it is at most 1
digit_low : (b : Bool) → digit b ≤ 1
digit_low true = omega arith
digit_low false = omega arith

-- and tells the test
digit_is : (b : Bool) → (digit b == 1) ≡ b
digit_is true = refl
digit_is false = refl

-- a power of two where a test passes is so many times the digit
weighed : (b : Bool) (n : ℕ) → (if b then n else 0) ≡ n * digit b
weighed true n = omega arith
weighed false n = omega arith

-- eight tests as a byte
abbrev byte : (ℕ → Bool) → ℕ
byte p = digit (p 0) + 2 * digit (p 1) + 4 * digit (p 2) + 8 * digit (p 3) + 16 * digit (p 4) + 32 * digit (p 5) + 64 * digit (p 6) + 128 * digit (p 7)

-- each of eight digits is at most 1
all_low : (p : ℕ → Bool) → (digit (p 0) ≤ 1) × (digit (p 1) ≤ 1) × (digit (p 2) ≤ 1) × (digit (p 3) ≤ 1) × (digit (p 4) ≤ 1) × (digit (p 5) ≤ 1)
    × (digit (p 6) ≤ 1) × (digit (p 7) ≤ 1)
all_low p = (digit_low (p 0), digit_low (p 1), digit_low (p 2), digit_low (p 3), digit_low (p 4), digit_low (p 5), digit_low (p 6), digit_low (p 7))

-- the byte of a set is made of its tests
bits_are : (units : Units) → bits_of units ≡ byte (holds units)
unfolding bits_of
bits_are units = omega (
  arith,
  weighed (holds units 0) 1,
  weighed (holds units 1) 2,
  weighed (holds units 2) 4,
  weighed (holds units 3) 8,
  weighed (holds units 4) 16,
  weighed (holds units 5) 32,
  weighed (holds units 6) 64,
  weighed (holds units 7) 128,
)

-- a bit of the byte is the digit at its place
bit_of : (p : ℕ → Bool) (u : ℕ) → u < 8 → bit_at (byte p) u ≡ digit (p u)
bit_of p zero h = omega (arith, all_low p)
bit_of p (suc zero) h = omega (arith, all_low p)
bit_of p (suc (suc zero)) h = omega (arith, all_low p)
bit_of p (suc (suc (suc zero))) h = omega (arith, all_low p)
bit_of p (suc (suc (suc (suc zero)))) h = omega (arith, all_low p)
bit_of p (suc (suc (suc (suc (suc zero))))) h = omega (arith, all_low p)
bit_of p (suc (suc (suc (suc (suc (suc zero)))))) h = omega (arith, all_low p)
bit_of p (suc (suc (suc (suc (suc (suc (suc zero))))))) h = omega (arith, all_low p)
bit_of p (suc (suc (suc (suc (suc (suc (suc (suc n)))))))) h = absurd (omega arith)

-- a set's byte has the bits of its units
pub has_bit-bits_of : (units : Units) (u : ℕ) → u < 8 → has_bit (bits_of units) u ≡ holds units u
has_bit-bits_of units u low = ap (λ n. has_bit n u) (bits_are units) ∙ (ap (λ n. n == 1) (bit_of (holds units) u low) ∙ digit_is (holds units u))
