use Rattle.std.proofs.Common.{◌≡◌, ◌+ℤ◌, Some, ap, ◌∙◌, arith, w32, w64, to_z, of_z}
use Rattle.std.proofs.lemmas.Int.{ints, to_z-of_z}
use Rattle.sift_base.specs.Word.{signed_of, word_of, sub}
use Rattle.sift_clock.proofs.correcting.reading.Goals as goal

-- the word that was heard, read against the word of the own offset
pub returns : goal.returns
returns c =
    let own : c.clock_word.result ≡ word_of c.args.own =
    c.clock_word.ensures ∙ ap word_of (to_z-of_z w64 c.args.own c.ranges.own) in
    let ahead : c.signed.result ≡ signed_of (sub c.in_ok-heard.field-0 (word_of c.args.own)) =
    c.signed.ensures ∙ ap signed_of (c.sub-ahead.ensures ∙ ap (sub c.in_ok-heard.field-0) own) in
    let fits : to_z w32 (of_z w32 (to_z w32 (of_z w32 c.from.result) +ℤ to_z w32 (of_z w32 c.args.error)))
    ≡ c.signed.result +ℤ c.args.error = omega (arith, ints) in
    rw c.in_ok-heard.was (ap Some (fits ∙ ap (λ z. z +ℤ c.args.error) ahead))
