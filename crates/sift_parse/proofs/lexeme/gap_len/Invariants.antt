use Rattle.std.proofs.Common.{◌≡◌, drop}
use Rattle.sift_parse.specs.Lexeme.{after_gap}
use Rattle.sift_parse.proofs.Lexing.Gaps.{after_either}
use Rattle.sift_parse.proofs.lexeme.gap_len.Given as goal

-- what is left, in a comment or outside of one, leads to what follows the gap
abbrev pub invariant-loop-i : goal.invariant-loop-i
invariant-loop-i l = after_either l.in_comment (drop l.i l.bytes) ≡ after_gap l.bytes
