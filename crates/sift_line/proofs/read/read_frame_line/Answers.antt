use Rattle.sift_line.proofs.LineForms.{field_at}
use Rattle.sift_line.proofs.Results.{none_given}
use Rattle.sift_line.proofs.read.read_frame_line.Goals as goal

pub returns-in_err-f-clause-exact : goal.returns-in_err-f-clause-exact
returns-in_err-f-clause-exact c = λ n most left has holds e.
    absurd (none_given n (c.in_err-f.ensures.exact n holds.0 (field_at 0 _ _ e)))

pub returns-in_err-skew-clause-exact : goal.returns-in_err-skew-clause-exact
returns-in_err-skew-clause-exact c = λ n most left has holds e.
    absurd (none_given most (c.in_err-skew.ensures.exact most holds.1 (field_at 1 _ _ e)))

pub returns-in_err-slack-clause-exact : goal.returns-in_err-slack-clause-exact
returns-in_err-slack-clause-exact c = λ n most left has holds e.
    absurd (none_given left (c.in_err-slack.ensures.exact left holds.2 (field_at 2 _ _ e)))

pub returns-in_err-margin-clause-exact : goal.returns-in_err-margin-clause-exact
returns-in_err-margin-clause-exact c = λ n most left has holds e.
    absurd (none_given has (c.in_err-margin.ensures.exact has tt (field_at 3 _ _ e)))
