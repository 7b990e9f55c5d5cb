use Rattle.std.proofs.Common.{ap, length, arith}
use Rattle.sift_line.proofs.Fields.{fields_of_text, text_where_read, few_fields}
use Rattle.sift_line.proofs.read.read_line.Goals as goal

pub returns-in_err-fields-clause-exact : goal.returns-in_err-fields-clause-exact
returns-in_err-fields-clause-exact c = λ line holds of e.
    let few = few_fields line in
    let same = ap length (fields_of_text line c.args.line.now holds e) in
    absurd (omega (arith, c.in_err-fields.ensures.too_many))

pub returns-clause-printed : goal.returns-clause-printed
returns-clause-printed c =
    text_where_read c.read_fields.result c.args.line.now
    (rw (c.deref.ensures.0, c.in_ok-fields.ensures.split) at c.read_fields.ensures.printed)

pub returns-clause-exact : goal.returns-clause-exact
returns-clause-exact c = λ line holds of e.
    c.read_fields.ensures.exact line holds of (rw (c.deref.ensures.0, c.in_ok-fields.ensures.split) (fields_of_text line c.args.line.now holds e))

pub returns-clause-version : goal.returns-clause-version
returns-clause-version c = c.read_fields.ensures.version
