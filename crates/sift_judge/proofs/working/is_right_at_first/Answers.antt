use Rattle.std.proofs.Common.{◌∙◌, arith, sym}
use Rattle.sift_judge.proofs.working.is_right_at_first.Goals as goal

-- in frame 0 it is asked to be all units
pub returns-else-f-gt0 : goal.returns-else-f-gt0
returns-else-f-gt0 c = (
  (λ same zero. c.is_same.ensures.0 same ∙ c.everyone.ensures),
  (λ right. c.is_same.ensures.1 (right (omega arith) ∙ sym c.everyone.ensures)),
)
