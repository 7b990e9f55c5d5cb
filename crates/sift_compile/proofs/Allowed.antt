-- The two limits, and the numbers that are kept.
use Rattle.std.proofs.Common.{◌≡◌, ℕ, ◌<◌, ◌≤◌, length, sym, ap, ◌∙◌, arith}
use Rattle.sift_code.specs.Bound.{kept, kept_limit}
use Rattle.sift_lang.specs.Tree.{Block}
use Rattle.sift_compile.specs.Code.{block_code}
use Rattle.sift_compile.specs.Length.{block_length}
use Rattle.sift_compile.proofs.Lengths.{length-block_code}

-- what was counted is the length of the code
pub counted : (body : Block) (n : ℕ) → n ≡ kept (block_length body) → n ≡ kept (length (block_code 0 0 body))
counted body n is = is ∙ ap kept (sym (length-block_code 0 0 body))

-- a number that is kept is over a limit below the most that is kept where the number itself is
pub kept_over : (limit n : ℕ) → limit < kept n → limit < n
kept_over limit n over = omega (arith, over)

-- a number is within a limit below the most that is kept where the number that is kept of it is
pub kept_within : (limit n : ℕ) → limit < kept_limit → kept n ≤ limit → n ≤ limit
kept_within limit n few within = omega (arith, few, within)
