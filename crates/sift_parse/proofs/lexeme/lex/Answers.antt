use Rattle.std.proofs.Common.{◌+◌}
use Rattle.std.proofs.lemmas.List.{map-append}
use Rattle.sift_parse.specs.Written.{placed_of, lexeme_of}
use Rattle.sift_parse.proofs.Lexing.Gaps.{Lexes-start, one-more}
use Rattle.sift_parse.proofs.Lexing.Fronts.{take-rest}
use Rattle.sift_parse.proofs.lexeme.lex.Goals as goal

pub loop-lexeme-init : goal.loop-lexeme-init
loop-lexeme-init c = record { within = c.gap_len-at.ensures.within; lexes = rw c.new-placed.ensures.items (Lexes-start c.args.text.now _ c.gap_len-at.ensures) }

pub loop-lexeme-preserved : goal.loop-lexeme-preserved
loop-lexeme-preserved c =
    let text = c.args.text.now in
    let at = c.loop-lexeme.at in
    let found = rw (take-rest at text) at c.in-Some.ensures.found in
    let gap = rw (take-rest (at + c.in-Some.len) text) at c.gap_len-at-in-Some.ensures in
    let more =
    one-more text at c.in-Some.len c.gap_len-at-in-Some.result (lexeme_of c.in-Some.lexeme)
    (placed_of c.loop-lexeme.placed.items) c.loop-lexeme.invariant.within c.loop-lexeme.invariant.lexes found gap in
    record { within = more.within; lexes = rw (c.in_ok-push.ensures.items, map-append) more.lexes }

pub returns : goal.returns
returns c =
    record {
      within = c.loop-lexeme.invariant.within;
      lexes = c.loop-lexeme.invariant.lexes;
      none = rw (take-rest c.loop-lexeme.at c.args.text.now) at c.in_default.ensures.none;
    }
