use Rattle.std.proofs.Common.{ℕ, ◌<◌, slice_index}
use Rattle.std.specs.Char.{digit_value}
use Rattle.sift_parse.proofs.lexeme.digits_len.Given as goal

-- the bytes so far are digits
abbrev pub invariant-loop-i : goal.invariant-loop-i
invariant-loop-i l = (k : ℕ) → k < l.i → digit_value (slice_index l.bytes k) < l.radix
