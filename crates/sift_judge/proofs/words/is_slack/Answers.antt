use Rattle.sift_judge.proofs.Skews.{slack_decides}
use mir.Val.{SFits}
use Rattle.sift_judge.proofs.Deciding.{no_value, of_value}
use Rattle.std.proofs.Common.{◌≤ℤ◌, pos, rules, w64}
use Rattle.sift_judge.proofs.words.is_slack.Goals as goal

pub returns-in-Some : goal.returns-in-Some
returns-in-Some c =
    let fits : SFits w64 c.in-Some.slack = search rules in
    of_value _ c.in-Some.slack (λ slack. pos 1 ≤ℤ slack) _ c.in-Some.is (slack_decides c.in-Some.slack fits)

pub returns-in-None : goal.returns-in-None
returns-in-None c =
    no_value _ (λ slack. pos 1 ≤ℤ slack) c.in-None.is
