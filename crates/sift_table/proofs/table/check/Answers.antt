use Rattle.std.proofs.Common.{inr, arith}
use Rattle.std.proofs.lemmas.List.{length-map}
use Rattle.std.proofs.lemmas.Grind.{common_steps}
use Rattle.sift_base.specs.Shapes.{shape_of, shapes_of}
use Rattle.sift_table.proofs.table.check.Goals as goal

pub returns-in-Some-clause-broken : goal.returns-in-Some-clause-broken
returns-in-Some-clause-broken c = inr (
  (c.has_an_entry_each.ensures.0 c.if-not-has_an_entry_each.false, (c.sheds_tasks.ensures.0 c.if-not-sheds_tasks.false, tt)),
  record {
    inside = omega (arith, length-map c.args.shapes.now.tasks.items shape_of);
    before = c.loop-row.invariant;
    broken = c.in-Some.ensures.broken;
  },
)

pub invariant_of-result : goal.invariant_of-result
invariant_of-result c = record {
  shapes = shapes_of c.args.shapes.now;
  good = record {
    whole = (c.has_an_entry_each.ensures.0 c.if-not-has_an_entry_each.false, (c.sheds_tasks.ensures.0 c.if-not-sheds_tasks.false, tt));
    rows = λ t there. c.loop-row.invariant t (omega (arith, length-map c.args.shapes.now.tasks.items shape_of));
  };
}

pub broken_rule-requires-clause-row : goal.broken_rule-requires-clause-row
broken_rule-requires-clause-row c = grind (arith, common_steps)

pub loop-row-preserved : goal.loop-row-preserved
loop-row-preserved c = grind (arith, common_steps)

pub overflow_cast-result : goal.overflow_cast-result
overflow_cast-result c = grind (arith, common_steps)

pub returns-clause-good : goal.returns-clause-good
returns-clause-good c = grind (arith, common_steps)
