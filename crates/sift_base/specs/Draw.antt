-- Draws: numbers that follow from a first one, by a linear congruential generator.
use Rattle.std.specs.Prelude.{ℕ, ◌+◌, ◌*◌, ◌/◌, ◌%◌, ◌^◌}
use Rattle.std.specs.Fn.{iterate}

-- the generator's number after this one (Knuth's constants for 64 bits, as in MMIX)
abbrev pub next_number : ℕ → ℕ
next_number x = (x * 6364136223846793005 + 1442695040888963407) % 2 ^ 64

-- the generator's number after so many draws from x
unfoldable pub after : ℕ → ℕ → ℕ
after x n = iterate next_number n x

-- what is drawn below m, where the generator's number is now x: its upper 31 bits modulo m
abbrev pub drawn : ℕ → ℕ → ℕ
drawn x m = (x / 2 ^ 33) % m

-- the draw with number i, from 0, of those from x: a number below m
abbrev pub draw_at : ℕ → ℕ → ℕ → ℕ
draw_at x i m = drawn (after x (i + 1)) m
