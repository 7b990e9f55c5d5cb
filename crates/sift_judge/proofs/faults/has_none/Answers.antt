use Rattle.std.proofs.Common.{◌≡◌, ◌∙◌, false, sym}
use Rattle.sift_base.specs.Units.{holds}
use Rattle.std.proofs.lemmas.List.Elements.{AllWithin-none}
use Rattle.sift_judge.proofs.Deciding.{not_both}
use Rattle.sift_judge.proofs.EachInTurn.{all_are, not_all, one_more}
use Rattle.sift_judge.proofs.faults.has_none.Goals as goal

pub loop-unit-init : goal.loop-unit-init
loop-unit-init c = AllWithin-none (λ v. holds c.args.caught v ≡ false) c.args.units.now 0

pub loop-unit-preserved : goal.loop-unit-preserved
loop-unit-preserved c =
    one_more (λ v. holds c.args.caught v ≡ false) c.args.units.now c.loop-unit.unit-index c.unit-item.result c.loop-unit-test.true c.unit-item.is
    c.loop-unit.invariant (sym c.has.ensures ∙ c.if-has.false)

pub returns-then-has : goal.returns-then-has
returns-then-has c =
    not_all (λ v. holds c.args.caught v ≡ false) c.args.units.now c.loop-unit.unit-index c.unit-item.result c.loop-unit-test.true c.unit-item.is
    (not_both (holds c.args.caught c.unit-item.result) (sym c.has.ensures ∙ c.if-has.true))

pub returns : goal.returns
returns c = all_are (λ v. holds c.args.caught v ≡ false) c.args.units.now c.loop-unit.unit-index c.loop-unit-test.false c.loop-unit.invariant
