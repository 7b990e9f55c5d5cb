use Rattle.std.proofs.Common.{◌≡◌, ℕ, false, true, subst}
use Rattle.std.specs.List.{All}
use Rattle.std.specs.Prelude.{◌↔◌}
use Rattle.sift_base.specs.Units.{Units, holds}
use Rattle.sift_mission.specs.Parts.{data_of}
use Rattle.sift_report.specs.Told.{told_at}
use Rattle.std.proofs.lemmas.List.Elements.{AllWithin-none}
use Rattle.sift_judge.proofs.Deciding.{fails}
use Rattle.sift_judge.proofs.EachInTurn.{all_are, not_all, one_more}
use Rattle.sift_judge.proofs.faults.all_accuse_none.Goals as goal

pub loop-unit-init : goal.loop-unit-init
loop-unit-init c =
    let accuses_none : ℕ → Type 0 = λ u. All (λ v. holds (told_at (data_of c.args.mission.now) c.args.lines.now c.args.f u).caught v ≡ false) c.args.units.now in
    AllWithin-none accuses_none c.args.units.now 0

pub loop-unit-preserved : goal.loop-unit-preserved
loop-unit-preserved c =
    let accuses_none : ℕ → Type 0 = λ u. All (λ v. holds (told_at (data_of c.args.mission.now) c.args.lines.now c.args.f u).caught v ≡ false) c.args.units.now in
    let is = subst (λ (caught : Units). (c.has_none.result ≡ true) ↔ All (λ v. holds caught v ≡ false) c.args.units.now) c.caught_told.ensures c.has_none.ensures in
    one_more accuses_none c.args.units.now c.loop-unit.unit-index c.unit-item.result c.loop-unit-test.true c.unit-item.is
    c.loop-unit.invariant (is.0 c.if-not-has_none.false)

pub returns-then-not-has_none : goal.returns-then-not-has_none
returns-then-not-has_none c =
    let accuses_none : ℕ → Type 0 = λ u. All (λ v. holds (told_at (data_of c.args.mission.now) c.args.lines.now c.args.f u).caught v ≡ false) c.args.units.now in
    let is = subst (λ (caught : Units). (c.has_none.result ≡ true) ↔ All (λ v. holds caught v ≡ false) c.args.units.now) c.caught_told.ensures c.has_none.ensures in
    not_all accuses_none c.args.units.now c.loop-unit.unit-index c.unit-item.result c.loop-unit-test.true c.unit-item.is
    (fails c.has_none.result (accuses_none c.unit-item.result) is c.if-not-has_none.true)

pub returns : goal.returns
returns c =
    let accuses_none : ℕ → Type 0 = λ u. All (λ v. holds (told_at (data_of c.args.mission.now) c.args.lines.now c.args.f u).caught v ≡ false) c.args.units.now in
    all_are accuses_none c.args.units.now c.loop-unit.unit-index c.loop-unit-test.false c.loop-unit.invariant
