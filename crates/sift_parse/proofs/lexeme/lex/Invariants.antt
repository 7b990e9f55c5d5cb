use Rattle.std.proofs.Common.{◌≤◌, ◌-◌, length, drop}
use Rattle.sift_parse.specs.Lexeme.{Lexes}
use Rattle.sift_parse.specs.Written.{placed_of}
use Rattle.sift_parse.proofs.lexeme.lex.Given as goal

-- the lexemes so far are read, and the next would begin here
abbrev pub invariant-loop-lexeme : goal.invariant-loop-lexeme
invariant-loop-lexeme l = record {
  within : l.at ≤ length l.text;
  lexes : Lexes (length l.text) l.text (placed_of l.placed.items) (drop l.at l.text);
}

abbrev pub decreases-loop-lexeme : goal.decreases-loop-lexeme
decreases-loop-lexeme l = length l.text - l.at
