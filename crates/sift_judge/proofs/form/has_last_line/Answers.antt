use Rattle.sift_line.specs.declared.line.ReportLine.TheVariants.{Last}
use Rattle.sift_judge.proofs.ReportLines.{last_line, no_last_line, other_last_line}
use Rattle.sift_report.specs.Told.{line_at}
use Rattle.sift_mission.specs.Parts.{data_of}
use Rattle.std.proofs.Common.{◌≡◌, ◌∙◌, None, Some, ap, sym}
use Rattle.sift_judge.proofs.form.has_last_line.Goals as goal

pub returns-in-Last : goal.returns-in-Last
returns-in-Last c =
    let d = data_of c.args.mission.now in
    let line : line_at d c.args.lines.now d.frames 0 ≡ Some (Last c.in-Last.frames c.in-Last.cfg c.in-Last.margin) =
    ap (λ n. line_at d c.args.lines.now n 0) (sym c.frames.ensures) ∙ sym c.in-Some.ensures ∙ ap Some c.in-Last.is in
    rw c.frames-in-Last.ensures (last_line _ d.frames c.in-Last.frames c.in-Last.cfg c.in-Last.margin line)

pub returns-in_default : goal.returns-in_default
returns-in_default c =
    let d = data_of c.args.mission.now in
    let line : line_at d c.args.lines.now d.frames 0 ≡ None =
    ap (λ n. line_at d c.args.lines.now n 0) (sym c.frames.ensures) ∙ sym c.in_default.ensures in
    no_last_line _ d.frames line

pub returns-in_default-line : goal.returns-in_default-line
returns-in_default-line c =
    let d = data_of c.args.mission.now in
    let line : line_at d c.args.lines.now d.frames 0 ≡ Some c.in-Some.line.now =
    ap (λ n. line_at d c.args.lines.now n 0) (sym c.frames.ensures) ∙ sym c.in-Some.ensures in
    other_last_line _ c.in-Some.line.now d.frames line c.in_default-line.not-Last
