-- Products of natural numbers and integers.
use Rattle.std.proofs.Common.{◌≡◌, ℕ, zero, suc, ◌+◌, ◌*◌, ◌≤◌, ℤ, pos, ◌+ℤ◌, ◌-ℤ◌, ◌*ℤ◌, ◌<ℤ◌, arith}
use Rattle.std.specs.Prelude.{◌≤ℤ◌}
use Rattle.std.proofs.lemmas.Int.{ints, by_lt_z}

-- so many times a sum
pub scaled-add : (n : ℕ) (a b : ℤ) → pos n *ℤ (a +ℤ b) ≡ pos n *ℤ a +ℤ pos n *ℤ b
scaled-add zero a b = omega (arith, ints)
scaled-add (suc n) a b = let rest = scaled-add n a b in omega (arith, ints)

-- so many times a difference
pub scaled-sub : (n : ℕ) (a b : ℤ) → pos n *ℤ (a -ℤ b) ≡ pos n *ℤ a -ℤ pos n *ℤ b
scaled-sub zero a b = omega (arith, ints)
scaled-sub (suc n) a b = let rest = scaled-sub n a b in omega (arith, ints)

-- the room that the limit leaves, in natural numbers
pub room : (n m s e r : ℕ) → (pos (2 * n) *ℤ (pos e +ℤ pos r)) ≤ℤ (pos s *ℤ (pos n -ℤ pos (3 * m)))
    → 2 * n * (e + r) + s * (3 * m) ≤ s * n
room n m s e r wide = let split = scaled-sub s (pos n) (pos (3 * m)) in omega (arith, ints)

-- so many times a number grows with it
pub scaled-≤ : (n : ℕ) (a b : ℤ) → a ≤ℤ b → (pos n *ℤ a) ≤ℤ (pos n *ℤ b)
scaled-≤ zero a b most = omega (arith, ints)
scaled-≤ (suc n) a b most = let rest = scaled-≤ n a b most in omega (arith, ints)

-- a number that is less than one more, so many times, is at most the other
pub scaled-cancel : (n : ℕ) (a b : ℤ) → (pos n *ℤ a) <ℤ (pos n *ℤ b +ℤ pos n) → a ≤ℤ b
scaled-cancel n a b less =
    by_lt_z b a
    (λ above.
    let more = scaled-≤ n (b +ℤ pos 1) a (omega (arith, ints)) in
    let split = scaled-add n b (pos 1) in
    absurd (omega (arith, ints)))
    (λ most. most)
