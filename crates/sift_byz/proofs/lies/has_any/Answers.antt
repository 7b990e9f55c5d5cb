use Rattle.std.proofs.Common.{refl, sym, ◌∙◌}
use Rattle.sift_base.specs.Units.{has}
use Rattle.sift_byz.proofs.Searches.{any_end, any_here, any_more}
use Rattle.sift_byz.proofs.lies.has_any.Goals as goal

-- this unit is in the path
pub returns-then-contains : goal.returns-then-contains
returns-then-contains c =
    any_here (has c.args.path.now) c.args.units.now c.loop-unit.unit-index 0 _ c.loop-unit-test.true refl c.loop-unit.invariant.left
    (sym c.contains.ensures.value ∙ c.if-contains.true)

-- this one isn't
pub loop-unit-preserved : goal.loop-unit-preserved
loop-unit-preserved c =
    record {
      left = any_more (has c.args.path.now) c.args.units.now c.loop-unit.unit-index 0 _ c.loop-unit-test.true refl c.loop-unit.invariant.left
          (sym c.contains.ensures.value ∙ c.if-contains.false);
    }

-- none is
pub returns : goal.returns
returns c = any_end (has c.args.path.now) c.args.units.now c.loop-unit.unit-index c.loop-unit.invariant.left c.loop-unit-test.false
