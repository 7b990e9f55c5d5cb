use Rattle.std.proofs.Common.{ℕ, ◌<◌, slice_index}
use Rattle.sift_base.specs.Name.{IsNameByte}
use Rattle.sift_parse.proofs.lexeme.name_len.Given as goal

-- the bytes so far may stand in a name
abbrev pub invariant-loop-i : goal.invariant-loop-i
invariant-loop-i l = (k : ℕ) → k < l.i → IsNameByte (slice_index l.bytes k)
