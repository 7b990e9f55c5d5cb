use Rattle.sift_judge.proofs.Deciding.{no_since}
use Rattle.std.proofs.Common.{◌∙◌, eq-eqb, eqb-true, length, sym}
use Rattle.sift_judge.proofs.form.has_end.Goals as goal

pub returns-then-has_last_line : goal.returns-then-has_last_line
returns-then-has_last_line c = (
  (λ t. (c.has_last_line.ensures.0 c.if-has_last_line.true, eqb-true (length c.args.lines.now) c.line_count.result t ∙ c.line_count.ensures)),
  (λ end. eq-eqb (length c.args.lines.now) c.line_count.result (end.1 ∙ sym c.line_count.ensures)),
)

pub returns-else-has_last_line : goal.returns-else-has_last_line
returns-else-has_last_line c =
    no_since c.has_last_line.result _ _ c.if-has_last_line.false c.has_last_line.ensures (λ end. end.0)
