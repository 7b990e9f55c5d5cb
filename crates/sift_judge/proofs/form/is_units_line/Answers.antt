use Rattle.sift_judge.proofs.ReportLines.{other_units_line}
use Rattle.sift_judge.proofs.Deciding.{no_since}
use Rattle.sift_line.specs.declared.line.ReportLine.TheVariants.{Unit as unit}
use Rattle.sift_line.specs.declared.line.ReportLine.{ReportLine}
use Rattle.sift_report.specs.Headline.{IsUnitsLine}
use Rattle.sift_mission.specs.Parts.{data_of}
use Rattle.sift_base.specs.Units.{Units, holds}
use Rattle.std.specs.Prelude.{◌↔◌}
use Rattle.std.proofs.Common.{◌≡◌, ◌∙◌, ap, subst, sym, true}
use Rattle.sift_judge.proofs.form.is_units_line.Goals as goal

pub returns-in-Idle : goal.returns-in-Idle
returns-in-Idle c =
    subst (λ (line : ReportLine). (c.is_of-in-Idle.result ≡ true) ↔ IsUnitsLine (data_of c.args.mission.now) c.args.f c.args.u line)
    (sym c.in-Idle.is) c.is_of-in-Idle.ensures

pub returns-in-Faulty : goal.returns-in-Faulty
returns-in-Faulty c =
    subst (λ (line : ReportLine). (c.is_of-in-Faulty.result ≡ true) ↔ IsUnitsLine (data_of c.args.mission.now) c.args.f c.args.u line)
    (sym c.in-Faulty.is) c.is_of-in-Faulty.ensures

pub returns-then-is_of : goal.returns-then-is_of
returns-then-is_of c =
    let of = c.is_of.ensures.0 c.if-is_of.true in
    let config = c.units.ensures.set in
    let caught = c.units-then-is_of.ensures in
    subst (λ (line : ReportLine). (c.is_full.result ≡ true) ↔ IsUnitsLine (data_of c.args.mission.now) c.args.f c.args.u line) (sym c.in-Unit.is) (
      (λ t. (let all = c.is_full.ensures.0 t in (
        of.0,
        of.1,
        of.2,
        (λ w there. all.0 w (config w ∙ there)),
        (λ w there. all.1 w (ap (λ (units : Units). holds units w) caught ∙ there)),
        sym c.len.ensures.value ∙ all.2,
        sym c.len-then-is_of.ensures.value ∙ all.3,
      ))),
      (λ is. c.is_full.ensures.1 (
        (λ w there. is.3 w (sym (config w) ∙ there)),
        (λ w there. is.4 w (ap (λ (units : Units). holds units w) (sym caught) ∙ there)),
        c.len.ensures.value ∙ is.5,
        c.len-then-is_of.ensures.value ∙ is.6,
      )),
    )

pub returns-else-is_of : goal.returns-else-is_of
returns-else-is_of c =
    let d = data_of c.args.mission.now in
    let line = unit c.in-Unit.g c.in-Unit.v c.in-Unit.cfg c.in-Unit.clk c.in-Unit.ins c.in-Unit.outs c.in-Unit.bad in
    subst (λ (l : ReportLine). (c.is_of.result ≡ true) ↔ IsUnitsLine d c.args.f c.args.u l) (sym c.in-Unit.is)
    (no_since c.is_of.result _ (IsUnitsLine d c.args.f c.args.u line) c.if-is_of.false c.is_of.ensures (λ is. (is.0, is.1, is.2)))

pub returns-in_default : goal.returns-in_default
returns-in_default c =
    other_units_line (data_of c.args.mission.now) c.args.f c.args.u c.args.line.now c.in_default.not-Unit c.in_default.not-Faulty c.in_default.not-Idle
