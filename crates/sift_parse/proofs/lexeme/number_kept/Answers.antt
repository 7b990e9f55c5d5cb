use Rattle.std.proofs.Common.{◌≡◌, ◌+◌, ◌*◌, ◌<◌, get_or, take, min, refl, rules, arith, sym, ap, ◌∙◌}
use Rattle.std.specs.Char.{digit_value}
use Rattle.std.specs.Str.Parse.{digits_value}
use Rattle.std.proofs.lemmas.Int.Digits.{digits_value_more}
use Rattle.std.proofs.lemmas.Grind.{common_steps}
use Rattle.sift_parse.specs.Written.{kept}
use Rattle.sift_parse.proofs.Lexing.Kept.{kept-more, unwrap_or-some}
use Rattle.sift_parse.proofs.lexeme.number_kept.Goals as goal

pub loop-b-preserved : goal.loop-b-preserved
loop-b-preserved c =
    let ds = c.args.digits.now in
    let i = c.loop-b.b-index in
    let v = digits_value c.args.radix (take i ds) in
    let b : c.from.result ≡ get_or ds i 0 = search rules in
    let is_digit : digit_value c.from.result < c.args.radix = rw b (c.requires.digits i (omega arith)) in
    let digit : c.unwrap_or-digit.result ≡ digit_value (get_or ds i 0) =
    c.unwrap_or-digit.ensures ∙ (unwrap_or-some _ _ _ c.to_digit.ensures.value is_digit ∙ ap digit_value b) in
    let more = kept-more v c.args.radix (digit_value (get_or ds i 0)) (omega arith) in
    let value = digits_value_more c.args.radix ds i (omega arith) in
    let n : c.loop-b.n * c.args.radix + c.unwrap_or-digit.result ≡ kept v * c.args.radix + digit_value (get_or ds i 0) = rw (c.loop-b.invariant, digit) refl in
    c.min-n.ensures ∙ (ap (λ x. min x 65536) n ∙ (more ∙ ap kept (sym value)))

pub overflow_add-n : goal.overflow_add-n
overflow_add-n c = grind (arith, common_steps)

pub overflow_mul-n : goal.overflow_mul-n
overflow_mul-n c = grind (arith, common_steps)
