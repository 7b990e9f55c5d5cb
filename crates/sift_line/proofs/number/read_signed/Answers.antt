use Rattle.sift_line.proofs.Numerals.{signed_is_signed, signed_is_printed, signed_is_read}
use Rattle.sift_line.proofs.number.read_signed.Goals as goal

pub returns-then-is_signed-clause-printed : goal.returns-then-is_signed-clause-printed
returns-then-is_signed-clause-printed c =
    rw c.ok.ensures.value (signed_is_printed c.args.text.now c.parse.result (c.is_signed.ensures.0 c.if-is_signed.true) c.parse.ensures.value.0)

pub returns-then-is_signed-clause-exact : goal.returns-then-is_signed-clause-exact
returns-then-is_signed-clause-exact c =
    λ z fits e. rw c.ok.ensures.value (signed_is_read c.args.text.now c.parse.result z c.parse.ensures.value.0 fits e)

pub returns-else-is_signed-clause-exact : goal.returns-else-is_signed-clause-exact
returns-else-is_signed-clause-exact c =
    λ z fits e. let begins = c.is_signed.ensures.1 (signed_is_signed z c.args.text.now fits e) in (cc)
