use Rattle.std.proofs.Common.{◌≡◌, ◌<◌, ◌∙◌, ℕ, List, length, get_or, ap, sym, arith}
use Rattle.std.proofs.lemmas.List.{length-map}
use Rattle.std.proofs.lemmas.Grind.{common_steps}
use Rattle.sift_base.specs.Shapes.{Shape, shape_at, shape_of, shapes_of}
use Rattle.sift_planner.specs.Drafts.{drafted, rows_in}
use Rattle.sift_planner.specs.Plans.{wanted}
use Rattle.sift_planner.proofs.Steps.{planned_next, planned_whole, shape_there}
use Rattle.sift_planner.proofs.planning.plan.Goals as goal

-- what a task reads has its row
pub first_open-requires-clause-needs : goal.first_open-requires-clause-needs
first_open-requires-clause-needs c = λ k d low.
    let shapes = c.args.shapes.now in
    let items = c.deref-task-items.ensures.value in
    let there : c.loop-t.t < length shapes.tasks.items = rw (← items) c.loop-t-test.true in
    let shape = shape_there shapes c.loop-t.t c.task-item.result there (rw items at c.task-item.is) in
    let needs : c.deref.result.now ≡ (shape_at (shapes_of shapes) c.loop-t.t).needs = c.deref.ensures.value ∙ ap (λ (s : Shape). s.needs) (sym shape) in
    let many = length-map shapes.tasks.items shape_of in
    let runs = c.loop-t.invariant.2.runs in
    let inside = ap length needs in
    let same = ap (λ (ns : List ℕ). get_or ns k d) needs in
    omega (arith, c.requires.tasks.earlier c.loop-t.t (omega (arith, there, many)) k d (omega (arith, low, inside)), same, runs)

-- one task more
pub loop-t-preserved : goal.loop-t-preserved
loop-t-preserved c =
    let shapes = c.args.shapes.now in
    let items = c.deref-task-items.ensures.value in
    let there : c.loop-t.t < length shapes.tasks.items = rw (← items) c.loop-t-test.true in
    let shape = shape_there shapes c.loop-t.t c.task-item.result there (rw items at c.task-item.is) in
    let needs : c.deref.result.now ≡ (shape_at (shapes_of shapes) c.loop-t.t).needs = c.deref.ensures.value ∙ ap (λ (s : Shape). s.needs) (sym shape) in
    let many = length-map shapes.tasks.items shape_of in (
      c.in_ok-add_row.ensures.kept,
      c.in_ok-add_row.ensures.executors ∙ c.loop-t.invariant.1,
      planned_next (shapes_of shapes) (wanted c.args.size c.args.period c.args.copies) c.loop-t.t (rows_in c.loop-t.draft) c.loop-t.draft.executors c.in-Some.run'
          c.deref.result.now (drafted c.loop-t.draft) (drafted c.add_row.new.self) c.requires.tasks (omega (arith, there, many)) c.loop-t.invariant.2
          c.loop-t.invariant.2.runs c.loop-t.invariant.1 needs c.in-Some.ensures.least c.in_ok-add_row.ensures.row,
    )

-- all tasks have their rows
pub returns-clause-planned : goal.returns-clause-planned
returns-clause-planned c =
    planned_whole c.args.shapes.now (wanted c.args.size c.args.period c.args.copies) c.loop-t.t (drafted c.loop-t.draft) c.loop-t.invariant.2
    (omega (arith, c.loop-t-test.false, ap length c.deref-task-items.ensures.value))

-- the plan is good
pub returns-clause-good : goal.returns-clause-good
returns-clause-good c =
    let w = wanted c.args.size c.args.period c.args.copies in
    let table = drafted c.loop-t.draft in
    let whole = planned_whole c.args.shapes.now w c.loop-t.t table c.loop-t.invariant.2
    (omega (arith, c.loop-t-test.false, ap length c.deref-task-items.ensures.value)) in
    c.plans_are_good.ensures (shapes_of c.args.shapes.now) w table c.requires.limits whole

pub returns-in_default-clause-no_room : goal.returns-in_default-clause-no_room
returns-in_default-clause-no_room c = grind (arith, common_steps)

pub overflow_cast-result : goal.overflow_cast-result
overflow_cast-result c = grind (arith, common_steps)
