use Rattle.std.proofs.Common.{sym, ◌∙◌}
use Rattle.sift_byz.proofs.Searches.{tells_here, tells_more, tells_none}
use Rattle.sift_byz.proofs.vectors.is_traitor.Goals as goal

-- the unit tells this lie
pub returns-then-tells : goal.returns-then-tells
returns-then-tells c =
    let lies = c.deref-lie-items.ensures.value in
    tells_here c.args.plan.now.lies.items c.args.unit c.loop-lie.lie-index c.lie-item.result (rw lies at c.loop-lie-test.true) (rw lies at c.lie-item.is)
    c.loop-lie.invariant.left (sym c.tells.ensures ∙ c.if-tells.true)

-- another one tells it
pub loop-lie-preserved : goal.loop-lie-preserved
loop-lie-preserved c =
    let lies = c.deref-lie-items.ensures.value in
    record {
      left = tells_more c.args.plan.now.lies.items c.args.unit c.loop-lie.lie-index c.lie-item.result (rw lies at c.loop-lie-test.true)
          (rw lies at c.lie-item.is) c.loop-lie.invariant.left (sym c.tells.ensures ∙ c.if-tells.false);
    }

-- it tells none
pub returns : goal.returns
returns c =
    tells_none c.args.plan.now.lies.items c.args.unit c.loop-lie.lie-index c.loop-lie.invariant.left
    (rw c.deref-lie-items.ensures.value at c.loop-lie-test.false)
