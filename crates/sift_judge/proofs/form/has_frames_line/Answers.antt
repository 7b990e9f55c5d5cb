use Rattle.sift_judge.proofs.ReportLines.{frames_line, no_frames_line, other_frames_line}
use Rattle.sift_report.specs.Told.{line_at}
use Rattle.sift_mission.specs.declared.mission.MissionParts.{MissionParts}
use Rattle.sift_mission.specs.Parts.{data_of}
use Rattle.std.proofs.Common.{◌≡◌, ◌∙◌, None, Some, ap, subst, sym}
use Rattle.sift_judge.proofs.form.has_frames_line.Goals as goal

pub returns-in-Frame : goal.returns-in-Frame
returns-in-Frame c =
    let at = subst (λ (p : MissionParts). Some c.in-Some.line.now ≡ line_at (data_of c.args.mission.now) c.args.lines.now c.args.f p.units)
    c.parts.ensures.same c.in-Some.ensures in
    frames_line _ c.args.f c.in-Frame.g c.in-Frame.skew c.in-Frame.slack c.in-Frame.margin (sym at ∙ ap Some c.in-Frame.is)

pub returns-in_default : goal.returns-in_default
returns-in_default c =
    let at = subst (λ (p : MissionParts). None ≡ line_at (data_of c.args.mission.now) c.args.lines.now c.args.f p.units)
    c.parts.ensures.same c.in_default.ensures in
    no_frames_line _ c.args.f (sym at)

pub returns-in_default-line : goal.returns-in_default-line
returns-in_default-line c =
    let at = subst (λ (p : MissionParts). Some c.in-Some.line.now ≡ line_at (data_of c.args.mission.now) c.args.lines.now c.args.f p.units)
    c.parts.ensures.same c.in-Some.ensures in
    other_frames_line _ c.in-Some.line.now c.args.f (sym at) c.in_default-line.not-Frame
