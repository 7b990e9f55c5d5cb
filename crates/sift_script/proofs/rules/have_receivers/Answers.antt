use Rattle.std.proofs.Common.{sym, ◌∙◌, arith}
use Rattle.std.proofs.lemmas.Bool.{false≢true}
use Rattle.std.proofs.lemmas.Grind.{common_steps}
use Rattle.sift_script.proofs.Views.{change_more, not_each}
use Rattle.sift_script.specs.Rules.{AreReceivers}
use Rattle.sift_script.specs.Script.{Change}
use Rattle.sift_script.proofs.rules.have_receivers.Goals as goal

pub returns-then-not-are_receivers : goal.returns-then-not-are_receivers
returns-then-not-are_receivers c = (
  λ e. absurd (false≢true e),
  λ all. absurd (
      not_each (λ (change : Change). AreReceivers c.args.units c.args.unit change.to) c.args.items.now c.loop-item.item-index c.item-item.result c.loop-item-test.true c.item-item.is
      (λ there. false≢true (sym c.if-not-are_receivers.true ∙ (rw c.deref.ensures.value at c.are_receivers.ensures).1 there)) all
      ),
)

pub loop-item-preserved : goal.loop-item-preserved
loop-item-preserved c =
    change_more (λ (change : Change). AreReceivers c.args.units c.args.unit change.to) c.args.items.now c.loop-item.item-index c.item-item.result c.loop-item-test.true c.item-item.is
    c.loop-item.invariant ((rw c.deref.ensures.value at c.are_receivers.ensures).0 c.if-not-are_receivers.false)

pub returns : goal.returns
returns c = grind (arith, common_steps)
