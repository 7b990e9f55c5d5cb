use Rattle.std.proofs.Common.{Some}
use Rattle.sift_line.proofs.Results.{held, none_given}
use Rattle.sift_line.proofs.read.read_head.Goals as goal

pub returns-in_err-f-clause-exact : goal.returns-in_err-f-clause-exact
returns-in_err-f-clause-exact c = λ n v small low frame unit. absurd (none_given n (c.in_err-f.ensures.exact n small frame))

pub returns-in_err-u-clause-exact : goal.returns-in_err-u-clause-exact
returns-in_err-u-clause-exact c = λ n v small low frame unit. absurd (none_given v (c.in_err-u.ensures.exact v low unit))

pub returns-clause-printed : goal.returns-clause-printed
returns-clause-printed c = (c.in_ok-f.ensures.printed, c.in_ok-u.ensures.printed)

pub returns-clause-exact : goal.returns-clause-exact
returns-clause-exact c = λ n v small low frame unit.
    let f = held c.in_ok-f.f n (c.in_ok-f.ensures.exact n small frame) in
    let u = held c.in_ok-u.u v (c.in_ok-u.ensures.exact v low unit) in
    λ i. Some (f i, u i)
