-- The limits of clocks, as they are tested in numbers of 32 bits.
use Rattle.std.proofs.Common.{◌≡◌, ◌↔◌, IsTrue, true, ℤ, pos, ◌+ℤ◌, ◌*ℤ◌, ◌≤ℤ◌, ◌<ℤ◌, arith, w32, to_z, of_z}
use Rattle.std.specs.Int.Signed.{le_z, lt_z}
use Rattle.std.proofs.lemmas.Int.{ints}
use Rattle.sift_skew.specs.Limits.{IsNumber, AreNumbers, IsAdmitted, skew_limit}

-- a test of two numbers
le_z-true : (a b : ℤ) → le_z a b ≡ true → a ≤ℤ b
le_z-true a b passed = grind (arith, ints)

le_z-holds : (a b : ℤ) → a ≤ℤ b → le_z a b ≡ true
le_z-holds a b most = grind (arith, ints)

lt_z-true : (a b : ℤ) → IsTrue (lt_z a b) → a <ℤ b
lt_z-true a b passed = grind (arith, ints)

lt_z-holds : (a b : ℤ) → a <ℤ b → IsTrue (lt_z a b)
lt_z-holds a b less = grind (arith, ints)

-- a number, as a variable of 32 bits holds it
abbrev pub held : ℤ → ℤ
held n = to_z w32 (of_z w32 n)

-- the sides of the tests, as the code has them
abbrev pub five_times : ℤ → ℤ → ℤ
five_times error rate = held (pos 5 *ℤ held (held error +ℤ held rate))

abbrev pub twice_and : ℤ → ℤ → ℤ → ℤ
twice_and skew error rate = held (held (held (pos 2 *ℤ held skew) +ℤ held error) +ℤ held rate)

held-number : (n : ℤ) → IsNumber n → held n ≡ n
held-number n small = omega (arith, ints)

five_times-is : (skew error rate length : ℤ) → AreNumbers skew error rate length
    → five_times error rate ≡ pos 5 *ℤ (error +ℤ rate)
five_times-is skew error rate length small = omega (arith, ints)

twice_and-is : (skew error rate length : ℤ) → AreNumbers skew error rate length
    → twice_and skew error rate ≡ pos 2 *ℤ skew +ℤ error +ℤ rate
twice_and-is skew error rate length small = omega (arith, ints)

-- the first test
pub kept-true : (skew error rate length : ℤ) → AreNumbers skew error rate length
    → le_z (five_times error rate) (held skew) ≡ true → (pos 5 *ℤ (error +ℤ rate)) ≤ℤ skew
kept-true skew error rate length small passed =
    le_z-true (pos 5 *ℤ (error +ℤ rate)) skew
    (rw (held-number skew small.0, five_times-is skew error rate length small) at passed)

-- where five times the error and the rate together is no more than the skew, the first test passes
pub kept-holds : (skew error rate length : ℤ) → AreNumbers skew error rate length
    → (pos 5 *ℤ (error +ℤ rate)) ≤ℤ skew → le_z (five_times error rate) (held skew) ≡ true
kept-holds skew error rate length small kept =
    rw (held-number skew small.0, five_times-is skew error rate length small)
    (le_z-holds (pos 5 *ℤ (error +ℤ rate)) skew kept)

-- the second test
pub told-true : (skew : ℤ) → IsNumber skew → le_z (held skew) skew_limit ≡ true → skew ≤ℤ skew_limit
told-true skew small passed = le_z-true skew skew_limit (rw (held-number skew small) at passed)

-- where the skew is within the limit at which clock words are read right, the second test passes
pub told-holds : (skew : ℤ) → IsNumber skew → skew ≤ℤ skew_limit → le_z (held skew) skew_limit ≡ true
told-holds skew small told = rw (held-number skew small) (le_z-holds skew skew_limit told)

-- the last test decides
pub last_decides : (skew error rate length : ℤ) → AreNumbers skew error rate length
    → (pos 5 *ℤ (error +ℤ rate)) ≤ℤ skew → skew ≤ℤ skew_limit
    → IsTrue (lt_z (twice_and skew error rate) (held length)) ↔ IsAdmitted skew error rate length
last_decides skew error rate length small kept told =
    rw (twice_and-is skew error rate length small, held-number length small.3) (
      λ passed. record {
        kept = kept;
        told = told;
        long = omega (arith, ints, lt_z-true (pos 2 *ℤ skew +ℤ error +ℤ rate) length passed);
      },
      λ admitted. lt_z-holds (pos 2 *ℤ skew +ℤ error +ℤ rate) length (omega (arith, ints, admitted.long)),
    )
