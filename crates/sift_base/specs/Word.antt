-- Word arithmetic: a word is a number below 2 ^ 16, and each operation is a formula over numbers.
use Rattle.std.specs.Prelude.{ℕ, ◌+◌, ◌*◌, ◌/◌, ◌%◌, ◌^◌, ℤ, pos, ◌-ℤ◌, int_div, int_rem, int_lt, int_le, unsigned_abs, Bool, ◌&&◌, ◌||◌, ◌==◌, nat_lt, if◌then◌else◌}
use Rattle.std.specs.Int.{int_rem_euclid}

-- the number of words
abbrev pub word_count : ℕ
word_count = 2 ^ 16

-- the integer that a word stands for in two's complement: its upper half stands for the negative ones
abbrev pub signed_of : ℕ → ℤ
signed_of w = if nat_lt w (2 ^ 15) then pos w else pos w -ℤ pos word_count

-- the word of an integer: its residue modulo the number of words
abbrev pub word_of : ℤ → ℕ
word_of z = unsigned_abs (int_rem_euclid z (pos word_count))

-- ---- arithmetic

-- the sum, as much of it as a word holds
abbrev pub add : ℕ → ℕ → ℕ
add a b = (a + b) % word_count

-- the difference, as much of it as a word holds
abbrev pub sub : ℕ → ℕ → ℕ
sub a b = word_of (pos a -ℤ pos b)

-- the product, as much of it as a word holds
abbrev pub mul : ℕ → ℕ → ℕ
mul a b = (a * b) % word_count

-- the word of the signed quotient, rounded toward zero, and 0 by zero
abbrev pub div : ℕ → ℕ → ℕ
div a b = if b == 0 then 0 else word_of (int_div (signed_of a) (signed_of b))

-- the word of the signed remainder, which has the sign of the first word, and 0 by zero
abbrev pub rem : ℕ → ℕ → ℕ
rem a b = if b == 0 then 0 else word_of (int_rem (signed_of a) (signed_of b))

-- ---- shifts

-- the first word times 2 to the power of the second, as much of it as a word holds
abbrev pub shl : ℕ → ℕ → ℕ
shl a b = (a * 2 ^ b) % word_count

-- the first word divided by 2 to the power of the second, rounded down
abbrev pub shr : ℕ → ℕ → ℕ
shr a b = a / 2 ^ b

-- ---- comparison

-- 1 where the first word is below the second, as signed numbers, else 0
abbrev pub lt : ℕ → ℕ → ℕ
lt a b = if int_lt (signed_of a) (signed_of b) then 1 else 0

-- 1 where the words are equal, else 0
abbrev pub eq : ℕ → ℕ → ℕ
eq a b = if a == b then 1 else 0

-- the first word is at most the second, as signed numbers
abbrev pub is_at_most : ℕ → ℕ → Bool
is_at_most a b = int_le (signed_of a) (signed_of b)

-- the second word lies between the first and the third, in either order
abbrev pub is_between : ℕ → ℕ → ℕ → Bool
is_between a b c = (is_at_most a b && is_at_most b c) || (is_at_most c b && is_at_most b a)

-- the middle one: that of three words which lies between the other two
abbrev pub mid : ℕ → ℕ → ℕ → ℕ
mid a b c = if is_between b a c then a else if is_between a b c then b else c
