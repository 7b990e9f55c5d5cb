use Rattle.std.proofs.Common.{◌+◌, ◌*◌, ◌≤◌, length, map}
use Rattle.sift_lang.specs.Tree.{statement_of}
use Rattle.sift_parse.proofs.Parsing.Turns.{Turns}
use Rattle.sift_parse.proofs.parser.+blocks.Given as goal

abbrev pub decreases-block : goal.decreases-block
decreases-block l = 4 * length l.tokens.now.rest.now + 2

abbrev pub decreases-statement : goal.decreases-statement
decreases-statement l = 4 * length l.tokens.now.rest.now + 1

abbrev pub decreases-branches : goal.decreases-branches
decreases-branches l = 4 * length l.tokens.now.rest.now + 3

abbrev pub decreases-second_branch : goal.decreases-second_branch
decreases-second_branch l = 4 * length l.tokens.now.rest.now + 3

abbrev pub decreases-braced : goal.decreases-braced
decreases-braced l = 4 * length l.tokens.now.rest.now + 3

-- the statements so far are read, and what is left follows them
abbrev pub invariant-block-loop-statements : goal.invariant-block-loop-statements
invariant-block-loop-statements l = record {
  shorter : length l.tokens.rest.now ≤ length l.initial.tokens.rest.now;
  turns : Turns l.initial.tokens.rest.now (map statement_of l.statements.items) l.tokens.rest.now;
}

abbrev pub decreases-block-loop-statements : goal.decreases-block-loop-statements
decreases-block-loop-statements l = length l.tokens.rest.now
