use Rattle.sift_line.specs.declared.line.ReportLine.{ReportLine}
use Rattle.sift_report.specs.Told.{told_at, told_in}
use Rattle.sift_mission.specs.Parts.{data_of}
use Rattle.std.proofs.Common.{◌∙◌, ℕ, Option, Some, ap, sym}
use Rattle.sift_judge.proofs.form.caught_told.Goals as goal

pub returns-in-Some-Unit : goal.returns-in-Some-Unit
returns-in-Some-Unit c =
    c.units.ensures ∙ ap (λ (line : Option ReportLine). (told_in line).caught) (ap Some (sym c.in-Some-Unit.field-0-is) ∙ c.in-Some-Unit.ensures)
    ∙ ap (λ (i : ℕ). (told_at (data_of c.args.mission.now) c.args.lines.now c.args.f i).caught) c.get.ensures.number
