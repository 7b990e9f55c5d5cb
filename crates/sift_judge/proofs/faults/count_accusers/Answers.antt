use Rattle.std.proofs.Common.{◌∙◌, ℕ, Bool, List, length, sym, ap, arith}
use Rattle.std.specs.List.{filter}
use Rattle.std.proofs.lemmas.List.{take_all}
use Rattle.sift_base.specs.Units.{holds}
use Rattle.sift_mission.specs.Parts.{data_of}
use Rattle.sift_report.specs.Told.{told_at}
use Rattle.sift_judge.proofs.EachInTurn.{count_more, count_same, few_pass}
use Rattle.sift_judge.proofs.faults.count_accusers.Goals.{then-has, else-has}
use Rattle.sift_judge.proofs.faults.count_accusers.Goals as goal

pub overflow_add-accusers : goal.overflow_add-accusers
overflow_add-accusers c =
    let names : ℕ → Bool = λ u. holds (told_at (data_of c.args.mission.now) c.args.lines.now c.args.f u).caught c.args.v in
    omega (arith, c.loop-unit.invariant, few_pass names c.args.units.now c.loop-unit.unit-index c.loop-unit.auto.unit-index-end, c.loop-unit-test.true)

pub loop-unit-preserved : goal.loop-unit-preserved
loop-unit-preserved c =
    let names : ℕ → Bool = λ u. holds (told_at (data_of c.args.mission.now) c.args.lines.now c.args.f u).caught c.args.v in
    let is = ap (λ caught. holds caught c.args.v) (sym c.caught_told.ensures) ∙ sym c.has.ensures in
    elim c.if-has.branch [
      | then-has w ↦ w.accusers-is ∙ count_more names c.args.units.now c.loop-unit.unit-index c.unit-item.result c.loop-unit-test.true c.unit-item.is
          c.loop-unit.accusers c.loop-unit.invariant (is ∙ w.if-has.true)
      | else-has w ↦ w.accusers-is ∙ count_same names c.args.units.now c.loop-unit.unit-index c.unit-item.result c.loop-unit-test.true c.unit-item.is
          c.loop-unit.accusers c.loop-unit.invariant (is ∙ w.if-has.false)
    ]

pub returns : goal.returns
returns c =
    let names : ℕ → Bool = λ u. holds (told_at (data_of c.args.mission.now) c.args.lines.now c.args.f u).caught c.args.v in
    c.loop-unit.invariant ∙ ap (λ (units : List ℕ). length (filter names units)) (take_all c.loop-unit.unit-index c.args.units.now c.loop-unit-test.false)
