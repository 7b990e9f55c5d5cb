use Rattle.sift_judge.proofs.Deciding.{no_since}
use Rattle.sift_judge.proofs.Agreeing.{agrees_as}
use Rattle.sift_report.specs.Told.{HasMarginTold, told_at}
use Rattle.sift_report.specs.Headline.{TellsTrueMargin}
use Rattle.sift_mission.specs.declared.mission.MissionParts.{MissionParts}
use Rattle.sift_mission.specs.Parts.{data_of}
use Rattle.std.proofs.Common.{◌-◌, ◌∙◌, ap, lt-ltb, arith}
use Rattle.sift_judge.proofs.working.has_true_margin.Goals as goal

pub returns-then-f-frames : goal.returns-then-f-frames
returns-then-f-frames c =
    let d = data_of c.args.mission.now in
    let lines = c.args.lines.now in
    let f = c.args.f in
    let whole = agrees_as c.margin_at.result c.args.margin (told_at d lines f d.units).margin (HasMarginTold d lines f)
    (c.margin_at.ensures ∙ ap (λ (p : MissionParts). (told_at d lines f p.units).margin) c.parts.ensures.same) c.requires.margin in (
      (λ t. record { frame = whole.0 c.if-margin_at-margin.true; end = λ last. absurd (omega (arith, last, c.frames.ensures, c.if-f-frames.true)) }),
      (λ m. lt-ltb f (c.frames.result - 1) c.if-f-frames.true),
    )

pub returns-else-f-frames : goal.returns-else-f-frames
returns-else-f-frames c =
    let d = data_of c.args.mission.now in
    let lines = c.args.lines.now in
    let f = c.args.f in
    let whole = agrees_as c.margin_at.result c.args.margin (told_at d lines f d.units).margin (HasMarginTold d lines f)
    (c.margin_at.ensures ∙ ap (λ (p : MissionParts). (told_at d lines f p.units).margin) c.parts.ensures.same) c.requires.margin in
    let end = agrees_as c.margin_at-else-f-frames.result c.args.margin (told_at d lines d.frames 0).margin (HasMarginTold d lines f)
    (c.margin_at-else-f-frames.ensures ∙ ap (λ g. (told_at d lines g 0).margin) c.frames-else-f-frames.ensures) c.requires.margin in (
      (λ t. record { frame = whole.0 c.if-margin_at-margin.true; end = λ _. end.0 t }),
      (λ m. end.1 (m.end (omega (arith, c.requires.frame, c.if-f-frames.false, c.frames.ensures)))),
    )

pub returns-else-margin_at-margin : goal.returns-else-margin_at-margin
returns-else-margin_at-margin c =
    let d = data_of c.args.mission.now in
    let lines = c.args.lines.now in
    let f = c.args.f in
    let whole = agrees_as c.margin_at.result c.args.margin (told_at d lines f d.units).margin (HasMarginTold d lines f)
    (c.margin_at.ensures ∙ ap (λ (p : MissionParts). (told_at d lines f p.units).margin) c.parts.ensures.same) c.requires.margin in
    no_since _ _ _ c.if-margin_at-margin.false whole (λ (m : TellsTrueMargin d lines f). m.frame)
