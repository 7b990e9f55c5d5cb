-- What is read of single values.
use Rattle.std.proofs.Common.{◌≡◌, ◌<◌, ◌≤◌, ℕ, Some, arith}
use Rattle.std.proofs.lemmas.Bool.Decides.{nat_tests}
use Rattle.sift_base.specs.Draw.{draw_at}
use Rattle.sift_gen.specs.Scenario.{number}
use Rattle.sift_document.specs.Document.{integer_between, word_value}

-- a number that lies between the two is read
pub number_read : (low high n : ℕ) → low ≤ n → n ≤ high → integer_between low high (number n) ≡ Some n
number_read low high n from to = grind (arith, nat_tests)

-- a number of 16 bits is read as itself
pub word_read : (n : ℕ) → n < 65536 → word_value (number n) ≡ Some n
word_read n low = grind (arith, nat_tests)

-- a draw is below its limit
pub draw_below : (x i m : ℕ) → 0 < m → draw_at x i m < m
draw_below x i m some = omega arith
