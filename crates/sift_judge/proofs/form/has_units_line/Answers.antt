use Rattle.sift_report.specs.Told.{line_at}
use Rattle.sift_report.specs.Headline.{IsUnitsLine}
use Rattle.sift_mission.specs.Parts.{data_of}
use Rattle.sift_judge.proofs.Deciding.{no_value, of_value}
use Rattle.std.proofs.Common.{sym, ◌≡◌, ℕ, None, Some, subst}
use Rattle.sift_judge.proofs.form.has_units_line.Goals as goal

pub returns-in-None : goal.returns-in-None
returns-in-None c =
    let d = data_of c.args.mission.now in
    no_value _ (IsUnitsLine d c.args.f c.args.u)
    (subst (λ (i : ℕ). line_at d c.args.lines.now c.args.f i ≡ None) c.get.ensures.number (sym c.in-None.ensures))

pub returns-in-Some : goal.returns-in-Some
returns-in-Some c =
    let d = data_of c.args.mission.now in
    of_value _ c.in-Some.line.now (IsUnitsLine d c.args.f c.args.u) c.is_units_line.result
    (subst (λ (i : ℕ). line_at d c.args.lines.now c.args.f i ≡ Some c.in-Some.line.now) c.get.ensures.number (sym c.in-Some.ensures)) c.is_units_line.ensures
