use Rattle.sift_line.proofs.LineForms.{end_is_last, four_are_frame}
use Rattle.sift_line.proofs.read.read_frame_or_last_line.Goals as goal

pub returns-in-end-clause-exact : goal.returns-in-end-clause-exact
returns-in-end-clause-exact c = λ line holds e.
    end_is_last line _ _ _ c.read_last_line.result holds (rw c.in-end.is at e) c.read_last_line.ensures.exact

pub returns-in_default-clause-exact : goal.returns-in_default-clause-exact
returns-in_default-clause-exact c = λ line holds e.
    four_are_frame line _ _ _ _ c.read_frame_line.result holds e c.in_default.not-end c.read_frame_line.ensures.exact
