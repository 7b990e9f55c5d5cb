use Rattle.std.proofs.Common.{◌≡◌, take, drop, subst, sym, ap, ◌∙◌}
use Rattle.sift_parse.specs.Written.{Continues}
use Rattle.sift_parse.proofs.Lexing.Fronts.{take-rest}
use Rattle.sift_parse.proofs.Lexing.Longest.{number-at, number-none, number-digits}
use Rattle.sift_parse.proofs.lexeme.number_at.Goals as goal

pub returns-then-continues_number-clause-none : goal.returns-then-continues_number-clause-none
returns-then-continues_number-clause-none c =
    let d = c.digits_at-radix.result in
    let back : c.split_at.result.1.now ≡ drop d.2 (drop d.1 c.args.bytes.now) = c.split_at.ensures.back ∙ ap (drop d.2) (take-rest d.1 c.args.bytes.now) in
    number-none c.args.bytes.now d.0 d.1 d.2 c.requires c.digits_at-radix.ensures
    (subst Continues back (c.continues_number.ensures.0 c.if-continues_number.true))

pub number_kept-requires-clause-digits : goal.number_kept-requires-clause-digits
number_kept-requires-clause-digits c =
    let d = c.digits_at-radix.result in
    let front : c.split_at.result.0.now ≡ take d.2 (drop d.1 c.args.bytes.now) = c.split_at.ensures.front ∙ ap (take d.2) (take-rest d.1 c.args.bytes.now) in
    rw front (number-digits c.args.bytes.now d.0 d.1 d.2 c.digits_at-radix.ensures)

pub returns-clause-found : goal.returns-clause-found
returns-clause-found c =
    let d = c.digits_at-radix.result in
    let front : c.split_at.result.0.now ≡ take d.2 (drop d.1 c.args.bytes.now) = c.split_at.ensures.front ∙ ap (take d.2) (take-rest d.1 c.args.bytes.now) in
    let back : c.split_at.result.1.now ≡ drop d.2 (drop d.1 c.args.bytes.now) = c.split_at.ensures.back ∙ ap (drop d.2) (take-rest d.1 c.args.bytes.now) in
    rw (c.number_kept.ensures, front)
    (number-at c.args.bytes.now d.0 d.1 d.2 c.requires c.digits_at-radix.ensures
    (λ h. (let t = c.continues_number.ensures.1 (subst Continues (sym back) h) in let f = c.if-continues_number.false in cc)))
