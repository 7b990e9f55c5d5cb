use Rattle.sift_judge.proofs.Deciding.{no_since}
use Rattle.sift_report.specs.Headline.{TellsClockSkew}
use Rattle.sift_mission.specs.Parts.{data_of}
use Rattle.sift_judge.proofs.words.has_clock_skew.Goals as goal

pub returns-then-has_skew : goal.returns-then-has_skew
returns-then-has_skew c = (
  (λ t. record {
    skew = λ us told. rw c.figures_told-skew.ensures.skew at (c.has_skew.ensures.0 c.if-has_skew.true us told);
    slack = rw c.figures_told-skew.ensures.slack at (c.is_slack.ensures.0 t);
  }),
  (λ told. c.is_slack.ensures.1 (rw c.figures_told-skew.ensures.slack told.slack)),
)

pub returns-else-has_skew : goal.returns-else-has_skew
returns-else-has_skew c =
    no_since c.has_skew.result _ _ c.if-has_skew.false c.has_skew.ensures
    (λ (told : TellsClockSkew (data_of c.args.mission.now) c.args.lines.now c.args.f) us is. rw c.figures_told-skew.ensures.skew (told.skew us is))
