-- The quotient by a positive number that is rounded down.
use Rattle.std.proofs.Common.{ℕ, ◌<◌, ℤ, pos, negsuc, ◌+ℤ◌, ◌*ℤ◌, ◌≤ℤ◌, ◌<ℤ◌, arith}
use Rattle.std.specs.Int.{int_div_euclid}
use Rattle.std.proofs.lemmas.Int.{ints}
use Rattle.sift_clock.specs.Correction.{CorrectionIsTheFloor, counted_sum}

-- a quotient, times the divisor, is at most the number, and one more is too much
pub floor_is : (a : ℤ) (k : ℕ) → 0 < k → ((pos k *ℤ int_div_euclid a (pos k)) ≤ℤ a) × (a <ℤ (pos k *ℤ int_div_euclid a (pos k) +ℤ pos k))
floor_is (pos a) k some = (omega (arith, ints), omega (arith, ints))
floor_is (negsuc a) k some = (omega (arith, ints), omega (arith, ints))

-- the correction for each clock comes to at most the counted sum, and with a tick more for each to more than it
pub correction_is_the_floor : CorrectionIsTheFloor
correction_is_the_floor limit clocks readings some = floor_is (counted_sum limit readings) clocks some
