use Rattle.std.proofs.Common.{sym, ◌∙◌}
use Rattle.std.proofs.lemmas.Bool.{false≢true}
use Rattle.sift_script.proofs.Views.{change_more, not_each}
use Rattle.sift_script.specs.Parts.{script_of}
use Rattle.sift_script.specs.Rules.{IsThere}
use Rattle.sift_script.proofs.rules.are_there.Goals as goal

pub returns-then-not-is_there : goal.returns-then-not-is_there
returns-then-not-is_there c = (
  λ e. absurd (false≢true e),
  λ all. absurd (
      not_each (IsThere (script_of c.args.parts.now) c.args.from) c.args.items.now c.loop-item.item-index c.item-item.result c.loop-item-test.true c.item-item.is
      (λ there. false≢true (sym c.if-not-is_there.true ∙ c.is_there.ensures.1 there)) all
      ),
)

pub loop-item-preserved : goal.loop-item-preserved
loop-item-preserved c =
    change_more (IsThere (script_of c.args.parts.now) c.args.from) c.args.items.now c.loop-item.item-index c.item-item.result c.loop-item-test.true c.item-item.is
    c.loop-item.invariant (c.is_there.ensures.0 c.if-not-is_there.false)
