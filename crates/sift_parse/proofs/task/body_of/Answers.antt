use Rattle.std.proofs.Common.{◌≡◌, ◌≤◌, Some, None, Err, length, drop, get_or, sym, ap, subst, ◌∙◌, arith}
use Rattle.std.specs.Option.{option_or}
use Rattle.sift_lang.specs.Tree.{block_of}
use Rattle.sift_parse.specs.Lexeme.{text_limit}
use Rattle.sift_parse.specs.Roll.{roll_of}
use Rattle.sift_parse.specs.declared.parser.Offence.TheVariants.{Syntax}
use Rattle.sift_parse.specs.Parsed.{Parses}
use Rattle.sift_parse.specs.Scanned.{no_syntax, end_stop}
use Rattle.sift_parse.specs.Written.{placed_of}
use Rattle.sift_parse.proofs.Refusals.Kinds.{kind-stops}
use Rattle.sift_parse.proofs.Refusals.Stops.{StopsAfter, after-tokens}
use Rattle.sift_parse.proofs.Refusals.Answering.{begins-task, parsed-whole, offence-end, place-short}
use Rattle.sift_parse.proofs.Refusals.Offences.{offence-here, tokens-within}
use Rattle.sift_parse.proofs.task.body_of.Goals as goal

-- each place of a lexeme is short
pub scan-requires-clause-short : goal.scan-requires-clause-short
scan-requires-clause-short c =
    rw c.deref.ensures.value
    (λ k d lt. place-short c.args.text.now
    (drop c.in_ok-lexed.lexed.end c.args.text.now) c.in_ok-lexed.lexed.placed.items k d lt c.requires.short c.in_ok-lexed.ensures.lexes)

-- the tokens are a task, and the last of them is refused, or the text goes on
pub returns-in-Some : goal.returns-in-Some
returns-in-Some c =
    let text = c.args.text.now in
    let lexed = c.in_ok-lexed.lexed in
    let scanned = c.in_ok-scanned.scanned in
    let after =
    after-tokens (roll_of c.args.names.now) text
    (placed_of lexed.placed.items) scanned.tokens.items lexed.end scanned.refused c.requires.short c.in_ok-lexed.ensures
    (rw c.deref.ensures.value at c.in_ok-scanned.ensures) in
    let same : option_or scanned.refused (end_stop lexed.end (length text)) ≡ Some c.in-Some.stop =
    ap (option_or scanned.refused) (sym c.stop.ensures) ∙ (sym c.or-stop.ensures ∙ c.in-Some.is) in
    (rw same at after) (begins-task scanned.tokens.items (block_of c.in-Ok.body.items) (rw c.deref-2.ensures.value at c.in-Ok.ensures))

-- the tokens are a task, and all there is
pub returns-in-Ok : goal.returns-in-Ok
returns-in-Ok c =
    let text = c.args.text.now in
    let lexed = c.in_ok-lexed.lexed in
    let scanned = c.in_ok-scanned.scanned in
    let after =
    after-tokens (roll_of c.args.names.now) text
    (placed_of lexed.placed.items) scanned.tokens.items lexed.end scanned.refused c.requires.short c.in_ok-lexed.ensures
    (rw c.deref.ensures.value at c.in_ok-scanned.ensures) in
    let same : option_or scanned.refused (end_stop lexed.end (length text)) ≡ None =
    ap (option_or scanned.refused) (sym c.stop.ensures) ∙ (sym c.or-stop.ensures ∙ c.in-None.is) in
    parsed-whole (roll_of c.args.names.now) text scanned.tokens.items (block_of c.in-Ok.body.items) (rw same at after)
    (rw c.deref-2.ensures.value at c.in-Ok.ensures)

pub index-requires : goal.index-requires
index-requires c =
    let scanned = c.in_ok-scanned.scanned in
    let within =
    tokens-within (roll_of c.args.names.now) c.in_ok-lexed.lexed.placed.items scanned.tokens.items scanned.refused
    (rw c.deref.ensures.value at c.in_ok-scanned.ensures) in
    omega (arith, within, c.if-at-len.true, c.len.ensures, scanned.tokens.ok.0, c.in_ok-lexed.lexed.placed.ok.0)

pub place-requires : goal.place-requires
place-requires c =
    let within =
    tokens-within (roll_of c.args.names.now) c.in_ok-lexed.lexed.placed.items c.in_ok-scanned.scanned.tokens.items
    c.in_ok-scanned.scanned.refused (rw c.deref.ensures.value at c.in_ok-scanned.ensures) in
    subst (λ p. p.at ≤ text_limit) (sym c.index.ensures)
    (place-short c.args.text.now
    (drop c.in_ok-lexed.lexed.end c.args.text.now) c.in_ok-lexed.lexed.placed.items c.in-Err-Syntax.at c.index.result.now
    (omega (arith, within, c.if-at-len.true, c.len.ensures, c.in_ok-scanned.scanned.tokens.ok.0)) c.requires.short c.in_ok-lexed.ensures.lexes)

-- one of the tokens offends
pub returns-in-Err-Syntax : goal.returns-in-Err-Syntax
returns-in-Err-Syntax c =
    let scanned = c.in_ok-scanned.scanned in
    let lexed = c.in_ok-lexed.lexed in
    let fault : Parses c.deref-2.result.now (Err (Syntax c.in-Err-Syntax.at)) = rw c.in-Err-Syntax.field-0-is at c.in-Err-Syntax.ensures in
    let here =
    offence-here (roll_of c.args.names.now) c.args.text.now
    (drop lexed.end c.args.text.now) lexed.placed.items scanned.tokens.items c.in-Err-Syntax.at c.index.result.now scanned.refused
    c.in_ok-lexed.ensures.lexes (rw c.deref.ensures.value at c.in_ok-scanned.ensures) (rw c.deref-2.ensures.value at fault)
    (omega (arith, c.if-at-len.true, c.len.ensures, scanned.tokens.ok.0)) in
    let place : c.place.result ≡ (get_or lexed.placed.items c.in-Err-Syntax.at c.index.result.now).at = c.place.ensures ∙ ap (λ p. p.at) c.index.ensures in
    kind-stops (roll_of c.args.names.now) c.args.text.now no_syntax c.place.result c.requires.short (rw place here)

-- the tokens offend at their end
pub returns-in-Err-Syntax-2 : goal.returns-in-Err-Syntax-2
returns-in-Err-Syntax-2 c =
    let text = c.args.text.now in
    let lexed = c.in_ok-lexed.lexed in
    let scanned = c.in_ok-scanned.scanned in
    let after =
    after-tokens (roll_of c.args.names.now) text
    (placed_of lexed.placed.items) scanned.tokens.items lexed.end scanned.refused c.requires.short c.in_ok-lexed.ensures
    (rw c.deref.ensures.value at c.in_ok-scanned.ensures) in
    let stops : StopsAfter (roll_of c.args.names.now) text scanned.tokens.items c.or-stop.result = rw (c.or-stop.ensures, c.stop.ensures) after in
    let fault : Parses c.deref-2.result.now (Err (Syntax c.in-Err-Syntax.at)) = rw c.in-Err-Syntax.field-0-is at c.in-Err-Syntax.ensures in
    rw (c.unwrap_or.ensures, c.place-in-Err-Syntax-2.ensures)
    (offence-end (roll_of c.args.names.now) text scanned.tokens.items c.in-Err-Syntax.at c.or-stop.result c.requires.short stops
    (rw c.deref-2.ensures.value at fault) (omega (arith, c.if-at-len.false, c.len.ensures, scanned.tokens.ok.0)))
