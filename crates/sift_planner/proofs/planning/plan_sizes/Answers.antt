use Rattle.std.proofs.Common.{◌≡◌, ◌+◌, ◌-◌, ℕ, length, map, subst, arith}
use Rattle.std.proofs.lemmas.List.{length_push}
use Rattle.std.proofs.lemmas.Grind.{common_steps}
use Rattle.sift_base.specs.Layout.{least_units}
use Rattle.sift_base.specs.Shapes.{shapes_of}
use Rattle.sift_table.specs.Schedule.{Schedule, schedule_of}
use Rattle.sift_planner.specs.Plans.{HasNoRoom, IsPlan, wanted}
use Rattle.sift_planner.specs.Sizes.{IsFirstWithoutRoom, table_at}
use Rattle.sift_planner.proofs.Steps.{refused_at, tables_more}
use Rattle.sift_planner.proofs.planning.plan_sizes.Goals as goal

-- the smaller sizes have plans
pub returns-in-Err-clause-no_room : goal.returns-in-Err-clause-no_room
returns-in-Err-clause-no_room c =
    let shapes = shapes_of c.args.shapes.now in
    let tables = map schedule_of c.loop-size.tables.items in
    let size : ℕ = c.loop-size.size in
    rw c.at.ensures
    (refused_at (HasNoRoom shapes (wanted size c.args.period c.args.copies))
    (IsFirstWithoutRoom shapes c.args.units c.args.period c.args.copies) size c.in-Err.stop
    (λ task no_room. record {
      from = omega (arith, c.loop-size.auto.size);
      to = omega (arith, c.loop-size-test.true);
      smaller = λ s from below.
          let i : ℕ = s - least_units in
          let at : least_units + i ≡ s = omega (arith, from) in (
            table_at tables i,
            subst (λ (n : ℕ). IsPlan shapes (wanted n c.args.period c.args.copies) (table_at tables i)) at
                (c.loop-size.invariant.1 i (omega (arith, c.loop-size.invariant.0, from, below))),
          );
      no_room = no_room;
    })
    c.in-Err.ensures.no_room)

-- one size more
pub loop-size-preserved : goal.loop-size-preserved
loop-size-preserved c =
    let shapes = shapes_of c.args.shapes.now in
    let planned = λ (i : ℕ) (table : Schedule). IsPlan shapes (wanted (least_units + i) c.args.period c.args.copies) table in
    let size : c.loop-size.size ≡ least_units + length c.loop-size.tables.items = omega (arith, c.loop-size.invariant.0) in
    let here : planned (length c.loop-size.tables.items) (schedule_of c.in-Ok.table) =
    subst (λ (n : ℕ). IsPlan shapes (wanted n c.args.period c.args.copies) (schedule_of c.in-Ok.table)) size c.in-Ok.ensures.planned in
    rw c.in_ok-push-in-Ok.ensures.items (
      omega (arith, length_push c.loop-size.tables.items c.in-Ok.table, c.loop-size.invariant.0),
      tables_more planned c.loop-size.tables.items c.in-Ok.table c.loop-size.invariant.1 here,
    )

pub returns-clause-planned : goal.returns-clause-planned
returns-clause-planned c = grind (arith, common_steps)
