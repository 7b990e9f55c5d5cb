-- How far whole numbers of ticks are apart.
use Rattle.std.specs.Prelude.{ℤ, pos, ◌+ℤ◌, ◌≤ℤ◌}

-- the two numbers are at most so far apart
abbrev pub IsWithin : ℤ → ℤ → ℤ → Type 0
IsWithin far a b = (a ≤ℤ (b +ℤ far)) × (b ≤ℤ (a +ℤ far))

-- the most that a reading may be wrong by
abbrev pub error_limit : ℤ
error_limit = pos 8000
