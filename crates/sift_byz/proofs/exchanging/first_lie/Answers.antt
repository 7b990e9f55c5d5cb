use Rattle.std.proofs.Common.{◌≡◌, ◌&&◌, ap, false, sym, ◌∙◌}
use Rattle.std.specs.Str.{bytes_eq}
use Rattle.sift_base.specs.Units.{has}
use Rattle.sift_byz.proofs.Searches.{first_end, first_here, first_more}
use Rattle.sift_byz.proofs.exchanging.first_lie.Goals.{else-eq-via-then-eq+else-contains, else-eq-via-else-eq}
use Rattle.sift_byz.proofs.exchanging.first_lie.Goals as goal

-- this lie tells it
pub returns-then-contains : goal.returns-then-contains
returns-then-contains c =
    first_here c.args.lies.now c.args.written.now c.args.to c.loop-lie.lie-index c.lie-item.result c.loop-lie-test.true c.lie-item.is
    c.loop-lie.invariant.left
    (rw c.as_slice.ensures.value at (sym c.eq.ensures ∙ c.if-eq.true))
    (rw c.deref.ensures.0 at (sym c.contains.ensures.value ∙ c.if-contains.true))

-- this one goes by another path, or to other units
pub loop-lie-preserved : goal.loop-lie-preserved
loop-lie-preserved c =
    let lie = c.lie-item.result in
    let by = rw c.as_slice.ensures.value at c.eq.ensures in
    let none : (bytes_eq lie.path.items c.args.written.now && has lie.to.items c.args.to) ≡ false =
    elim c.else-eq.branch [
      | else-eq-via-then-eq+else-contains w ↦
          ap (λ b. b && has lie.to.items c.args.to) (sym by ∙ w.if-eq.true)
          ∙ (rw w.deref.ensures.0 at (sym w.contains.ensures.value ∙ w.if-contains.false))
      | else-eq-via-else-eq w ↦ ap (λ b. b && has lie.to.items c.args.to) (sym by ∙ w.if-eq.false)
    ] in
    record {
      left = first_more c.args.lies.now c.args.written.now c.args.to c.loop-lie.lie-index lie c.loop-lie-test.true c.lie-item.is
          c.loop-lie.invariant.left none;
    }

-- none tells it
pub returns : goal.returns
returns c = first_end c.args.lies.now c.args.written.now c.args.to c.loop-lie.lie-index c.loop-lie.invariant.left c.loop-lie-test.false
