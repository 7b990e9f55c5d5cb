-- The units of a mission are those below a count.
use Rattle.std.proofs.Common.{◌≡◌, ℕ, ◌<◌, true, arith, zero, suc, Some}
use Rattle.std.specs.List.{slice_get}
use Rattle.sift_base.specs.Units.{has}
use Rattle.sift_base.specs.laws.Ranges.{has-range, range-low}
use Rattle.sift_config.specs.Config.{first_units}

-- a unit of the first n is below n
pub unit_low : (n u : ℕ) → has (first_units n) u ≡ true → u < n
unit_low n u there = omega (arith, range-low 0 n u there)

-- and the other way round
pub low_unit : (n u : ℕ) → u < n → has (first_units n) u ≡ true
low_unit n u low = has-range 0 n u (omega arith) (omega arith)

-- the first of a computer's units has the number 0
pub first_is_zero : (n u : ℕ) → slice_get (first_units n) 0 ≡ Some u → u ≡ 0
first_is_zero zero u e = absurd cc
first_is_zero (suc n) u e = cc
