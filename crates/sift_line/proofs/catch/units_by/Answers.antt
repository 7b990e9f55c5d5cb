use Rattle.std.proofs.Common.{◌∙◌, sym, subst}
use Rattle.std.proofs.lemmas.List.{take_all}
use Rattle.sift_line.specs.Bad.{AreTold}
use Rattle.sift_line.proofs.Catches.{none_told, none_told_more, one_told_more}
use Rattle.sift_line.proofs.catch.units_by.Goals.{then-has, else-has}
use Rattle.sift_line.proofs.catch.units_by.Goals as goal

pub loop-catch-init : goal.loop-catch-init
loop-catch-init c = rw c.empty-units.ensures (none_told c.args.kind)

pub loop-catch-preserved : goal.loop-catch-preserved
loop-catch-preserved c =
    let list = c.args.list.now in
    elim c.if-has.branch [
      | then-has w ↦
          one_told_more list c.loop-catch.catch-index c.catch-item.result c.args.kind c.loop-catch.units c.if-has.units c.loop-catch.invariant
          c.loop-catch-test.true c.catch-item.is (sym c.has.ensures ∙ w.if-has.true) (w.units-is ∙ w.with-units.ensures)
      | else-has w ↦
          rw w.units-is (none_told_more list c.loop-catch.catch-index c.catch-item.result c.args.kind c.loop-catch.units c.loop-catch.invariant
          c.loop-catch-test.true c.catch-item.is (sym c.has.ensures ∙ w.if-has.false))
    ]

pub returns : goal.returns
returns c =
    subst (λ list. AreTold list c.args.kind c.loop-catch.units)
    (take_all c.loop-catch.catch-index c.args.list.now c.loop-catch-test.false) c.loop-catch.invariant
