-- Products of small numbers.
use Rattle.std.proofs.Common.{◌≡◌, ℕ, ◌+◌, ◌*◌, ◌^◌, ◌<◌, ◌≤◌, inl, inr, ℤ, pos, negsuc, ◌+ℤ◌, ◌-ℤ◌, ◌*ℤ◌, FitsSigned, w32, to_z, of_z, arith}
use Rattle.std.specs.Prelude.{◌≤ℤ◌, ◌<ℤ◌}
use Rattle.std.specs.Bool.{MatchBool}
use Rattle.std.specs.Int.Signed.{le_z}
use Rattle.std.proofs.lemmas.Int.{ints}
use Rattle.std.proofs.lemmas.Bool.{cases_Bool}
use Rattle.std.proofs.Math.Nat.{mul-le-mul}
use Rattle.sift_clocklab.specs.Conditions.{AreInRange, IsAdmitted, IsRefused}

-- a number, as a variable of 32 bits holds it
abbrev pub held : ℤ → ℤ
held n = to_z w32 (of_z w32 n)

-- two numbers of at least 0, the first and the second at most so great
pub record AreSmall (most_a most_b : ℕ) (a b : ℤ) : Type 0 where
  pub first : (pos 0 ≤ℤ a) × (a ≤ℤ pos most_a)
  pub second : (pos 0 ≤ℤ b) × (b ≤ℤ pos most_b)

-- their product is small
product_small : (most_a most_b : ℕ) (a b : ℤ) → AreSmall most_a most_b a b
    → (pos 0 ≤ℤ (a *ℤ b)) × ((a *ℤ b) ≤ℤ pos (most_a * most_b))
product_small most_a most_b (pos a) (pos b) small =
    let least : a * b ≤ most_a * most_b = mul-le-mul (omega (arith, ints, small.first)) (omega (arith, ints, small.second)) in
    (omega (arith, ints), omega (arith, ints))
product_small most_a most_b (negsuc a) b small = absurd (omega (arith, ints, small.first))
product_small most_a most_b a (negsuc b) small = absurd (omega (arith, ints, small.second))

-- so it fits a variable of 32 bits
pub product_fits : (most_a most_b : ℕ) (x y a b : ℤ) → most_a * most_b < 2 ^ 31 → AreSmall most_a most_b a b → x ≡ a
    → y ≡ b
    → FitsSigned w32 (x *ℤ y)
product_fits most_a most_b x y a b few small first second =
    let product = product_small most_a most_b a b small in
    rw (first, second) (omega (arith, ints, product))

-- which holds it
pub product_held : (most_a most_b : ℕ) (x y a b : ℤ) → most_a * most_b < 2 ^ 31 → AreSmall most_a most_b a b → x ≡ a
    → y ≡ b
    → held (x *ℤ y) ≡ a *ℤ b
product_held most_a most_b x y a b few small first second =
    let product = product_small most_a most_b a b small in
    rw (first, second) (omega (arith, ints, product))

-- twice the clocks, and the errors and drifts, are small
pub needed_small : (n m : ℕ) (skew error rate : ℤ) (rounds : ℕ) → AreInRange n m skew error rate rounds
    → AreSmall 64 16000 (pos (2 * n)) (error +ℤ rate)
needed_small n m skew error rate rounds sizes = record {
  first = (omega (arith, ints), omega (arith, ints, sizes.few_clocks));
  second = (omega (arith, ints, sizes.small_error, sizes.small_rate), omega (arith, ints, sizes.small_error, sizes.small_rate));
}

-- so are the skew, and the clocks less three for each faulty one
pub room_small : (n m : ℕ) (skew error rate : ℤ) (rounds : ℕ) → AreInRange n m skew error rate rounds → 3 * m + 1 ≤ n
    → AreSmall 8000 32 skew (pos n -ℤ pos (3 * m))
room_small n m skew error rate rounds sizes enough = record {
  first = sizes.small_skew;
  second = (omega (arith, ints), omega (arith, ints, sizes.few_clocks));
}

-- where enough clocks work, the test of the room decides
pub room_decides : (n m : ℕ) (skew error rate needed room : ℤ) → 3 * m + 1 ≤ n
    → needed ≡ pos (2 * n) *ℤ (error +ℤ rate) → room ≡ skew *ℤ (pos n -ℤ pos (3 * m))
    → MatchBool (le_z needed room) (IsAdmitted n m skew error rate) (IsRefused n m skew error rate)
room_decides n m skew error rate needed room enough needed_is room_is =
    elim (cases_Bool (le_z needed room)) [
      | inl t ↦ rw t (record {
        enough = enough;
        room = (let fits : needed ≤ℤ room = grind (arith, ints) in rw (← needed_is, ← room_is) fits);
      })
      | inr f ↦ rw f (inr (let short : room <ℤ needed = grind (arith, ints) in rw (← needed_is, ← room_is) short))
    ]
