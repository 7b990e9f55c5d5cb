use Rattle.std.proofs.Common.{arith}
use Rattle.sift_line.proofs.Numerals.{decimal_is_plain, read_is_printed, printed_is_read}
use Rattle.sift_line.proofs.number.read_number.Goals as goal

pub returns-then-is_plain-clause-printed : goal.returns-then-is_plain-clause-printed
returns-then-is_plain-clause-printed c =
    rw c.ok.ensures.value (read_is_printed c.args.text.now c.parse.result (c.is_plain.ensures.0 c.if-is_plain.true) c.parse.ensures.value.0)

pub returns-then-is_plain-clause-exact : goal.returns-then-is_plain-clause-exact
returns-then-is_plain-clause-exact c =
    λ n small e. rw c.ok.ensures.value (printed_is_read c.args.text.now c.parse.result n c.parse.ensures.value.0 small e)

pub returns-else-is_plain-clause-exact : goal.returns-else-is_plain-clause-exact
returns-else-is_plain-clause-exact c =
    λ n small e. let plain = c.is_plain.ensures.1 (decimal_is_plain n c.args.text.now (omega arith) e) in (cc)
