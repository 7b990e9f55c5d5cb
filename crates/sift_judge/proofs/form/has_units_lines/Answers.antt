use Rattle.sift_judge.proofs.Deciding.{fails, no_where}
use Rattle.std.proofs.Common.{length, ◌≤◌, refl, arith}
use Rattle.std.specs.Prelude.{IsSomeAnd}
use Rattle.sift_mission.specs.Parts.{data_of}
use Rattle.sift_report.specs.Told.{line_at}
use Rattle.sift_report.specs.Headline.{IsUnitsLine}
use Rattle.sift_judge.proofs.EachUnit.{all_tested, falls, one_more}
use Rattle.sift_judge.proofs.form.has_units_lines.Goals as goal

pub loop-i-preserved : goal.loop-i-preserved
loop-i-preserved c = one_more
    (λ u. IsSomeAnd (line_at (data_of c.args.mission.now) c.args.lines.now c.args.f u) (IsUnitsLine (data_of c.args.mission.now) c.args.f u))
    c.args.mission.now.units c.everyone-everyone.result c.everyone-everyone.ensures c.loop-i.i c.unit_at.result c.unit_at.ensures
    c.loop-i.invariant (c.has_units_line.ensures.0 c.if-not-has_units_line.false)

pub returns : goal.returns
returns c =
    let seen : length c.everyone-everyone.result ≤ c.loop-i.i = omega (arith, c.loop-i-test.false, c.len-i-end.ensures.length) in (
      (λ t. all_tested (λ u. IsSomeAnd (line_at (data_of c.args.mission.now) c.args.lines.now c.args.f u) (IsUnitsLine (data_of c.args.mission.now) c.args.f u))
          c.args.mission.now.units c.loop-i.i c.everyone-everyone.result c.everyone-everyone.ensures seen c.loop-i.invariant),
      (λ all. refl),
    )

pub returns-then-not-has_units_line : goal.returns-then-not-has_units_line
returns-then-not-has_units_line c =
    no_where _ (falls
    (λ u. IsSomeAnd (line_at (data_of c.args.mission.now) c.args.lines.now c.args.f u) (IsUnitsLine (data_of c.args.mission.now) c.args.f u))
    c.args.mission.now.units c.everyone-everyone.result c.everyone-everyone.ensures c.loop-i.i c.unit_at.result c.unit_at.ensures
    (fails c.has_units_line.result _ c.has_units_line.ensures c.if-not-has_units_line.true))

pub loop-i-init : goal.loop-i-init
loop-i-init c =
    λ u low. absurd (omega (arith, low))
