-- What a reading counts for, and how little a correction changes an offset.
use Rattle.std.proofs.Common.{◌≡◌, ℕ, suc, ◌*◌, ◌<◌, ◌≤◌, List, [], ◌∷◌, length, map, ℤ, pos, negsuc, ◌+ℤ◌, Option, None, Some, inl, inr, arith}
use Rattle.std.specs.Prelude.{nat_lt}
use Rattle.std.proofs.lemmas.Int.{ints}
use Rattle.std.proofs.lemmas.Bool.{cases_Bool, ltb-false, le-ltb}
use Rattle.std.proofs.lemmas.List.{length-map}
use Rattle.std.proofs.Math.Nat.{mul-le-mul_right}
use Rattle.sift_base.specs.Units.{others}
use Rattle.sift_base.specs.laws.Counts.{length-has}
use Rattle.sift_base.specs.laws.Others.{length-others-≤}
use Rattle.sift_clock.specs.Distance.{IsWithin}
use Rattle.sift_clock.specs.Correction.{counted, counted_sum, correction_of}
use Rattle.sift_clock.specs.laws.Floors.{floor_is}
use Rattle.sift_skew.specs.Leading.{OffsetsChangeLittle}
use Rattle.sift_skew.proofs.Products.{scaled-cancel, scaled-add}

-- what a reading from 0 on counts for is no farther from 0 than the limit
counted-pos : (limit n : ℕ) → IsWithin (pos limit) (counted (pos limit) (Some (pos n))) (pos 0)
counted-pos limit n =
    elim (cases_Bool (nat_lt limit n)) [
      | inl t ↦ rw t (omega (arith, ints), omega (arith, ints))
      | inr f ↦ let near = ltb-false limit n f in rw f (omega (arith, ints), omega (arith, ints))
    ]

counted-negsuc : (limit n : ℕ) → IsWithin (pos limit) (counted (pos limit) (Some (negsuc n))) (pos 0)
counted-negsuc limit n =
    elim (cases_Bool (nat_lt limit (suc n))) [
      | inl t ↦ rw t (omega (arith, ints), omega (arith, ints))
      | inr f ↦ let near = ltb-false limit (suc n) f in rw f (omega (arith, ints), omega (arith, ints))
    ]

-- a reading counts for at most the limit
pub counted_within : (limit : ℕ) (reading : Option ℤ) → IsWithin (pos limit) (counted (pos limit) reading) (pos 0)
counted_within limit None = (omega (arith, ints), omega (arith, ints))
counted_within limit (Some (pos n)) = counted-pos limit n
counted_within limit (Some (negsuc n)) = counted-negsuc limit n

-- a reading within the limit counts as it is
pub counted_is : (limit : ℕ) (ticks : ℤ) → IsWithin (pos limit) ticks (pos 0) → counted (pos limit) (Some ticks) ≡ ticks
counted_is limit (pos n) near = rw (le-ltb limit n (omega (arith, ints)))
counted_is limit (negsuc n) near = rw (le-ltb limit (suc n) (omega (arith, ints)))

-- a sum of counted readings is at most the limit for each
counted_sum_within : (limit : ℕ) (readings : List (Option ℤ))
    → IsWithin (pos (length readings * limit)) (counted_sum (pos limit) readings) (pos 0)
counted_sum_within limit [] = (omega (arith, ints), omega (arith, ints))
counted_sum_within limit (reading ∷ readings) =
    let rest = counted_sum_within limit readings in
    let here = counted_within limit reading in
    (omega (arith, ints), omega (arith, ints))

-- a correction is at most the limit, where the readings are no more than the clocks
correction_within : (limit clocks : ℕ) (readings : List (Option ℤ)) → 0 < clocks → length readings ≤ clocks
    → IsWithin (pos limit) (correction_of (pos limit) clocks readings) (pos 0)
correction_within limit clocks readings some few =
    let floor = floor_is (counted_sum (pos limit) readings) clocks some in
    let sum = counted_sum_within limit readings in
    let most : length readings * limit ≤ clocks * limit = mul-le-mul_right limit few in
    let correction : ℤ = correction_of (pos limit) clocks readings in
    let split = scaled-add clocks correction (pos limit) in
    let above = scaled-cancel clocks correction (pos limit) (omega (arith, ints)) in
    let below = scaled-cancel clocks (pos 0) (correction +ℤ pos limit) (omega (arith, ints)) in
    (omega (arith, ints), omega (arith, ints))

-- an offset changes at a boundary by at most the limit of readings and that of drifts together, whatever is read
pub offsets_change_little : OffsetsChangeLittle
offsets_change_little (pos limit) rate us read own drift u u_in positive drifts =
    let few : length (map read (others u us)) ≤ length us = rw length-map (length-others-≤ u us) in
    let near = correction_within limit (length us) (map read (others u us)) (length-has u us u_in) few in
    (omega (arith, ints), omega (arith, ints))
offsets_change_little (negsuc limit) rate us read own drift u u_in positive drifts = absurd (omega (arith, ints))
