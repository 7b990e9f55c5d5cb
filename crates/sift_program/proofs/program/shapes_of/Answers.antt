use Rattle.std.proofs.Common.{◌<◌, ◌∙◌, length, map, sym, ap, arith}
use Rattle.std.proofs.lemmas.List.{length-map, map-append, take_all}
use Rattle.sift_base.specs.Shapes.{AllShapes}
use Rattle.sift_lang.specs.Tree.{tree_of}
use Rattle.sift_program.specs.Program.{shapes_from, program_of}
use Rattle.sift_program.specs.laws.ShapeLists.{length-shapes}
use Rattle.sift_program.proofs.ShapeLemmas.{shapes_next}
use Rattle.sift_program.proofs.SoundShapes.{sound_shapes}
use Rattle.sift_program.proofs.program.shapes_of.Goals as goal

pub needs_of-requires-clause-place : goal.needs_of-requires-clause-place
needs_of-requires-clause-place c = rw (c.deref.ensures.value, ← c.deref-task-items.ensures.value) c.loop-place-test.true

pub needs_of-requires-clause-few : goal.needs_of-requires-clause-few
needs_of-requires-clause-few c =
    let long = ap length c.deref.ensures.value in
    omega (arith, long, length-map c.args.program.now.tasks.items tree_of, c.requires.program.few_tasks)

pub needs_of-requires-clause-words : goal.needs_of-requires-clause-words
needs_of-requires-clause-words c = rw c.deref.ensures.value (omega (arith, c.requires.program.a_start_each, c.requires.program.few_words))

-- the shape of one task more
pub loop-place-preserved : goal.loop-place-preserved
loop-place-preserved c =
    let tasks = c.args.program.now.tasks.items in
    let low : c.loop-place.place < length tasks = rw (← c.deref-task-items.ensures.value) c.loop-place-test.true in
    let item = rw c.deref-task-items.ensures.value at c.task-item.is in
    let needs = rw c.deref.ensures.value at c.in_ok-needs_of.ensures in
    rw (c.in_ok-push.ensures.items, map-append, c.loop-place.invariant)
    (sym (shapes_next tasks c.loop-place.place c.task-item.result c.in_ok-needs_of.field-0.items low item needs))

-- the shapes of all tasks
pub returns-clause-shapes : goal.returns-clause-shapes
returns-clause-shapes c =
    let trees = map tree_of c.args.program.now.tasks.items in
    let high = rw c.deref-task-items.ensures.value at c.loop-place-test.false in
    let all = take_all c.loop-place.place (shapes_from trees 0 trees) (omega (arith, high, length-shapes trees 0 trees, length-map c.args.program.now.tasks.items tree_of)) in
    ap (λ shapes. let all : AllShapes = record { sensors = c.args.sensors; tasks = shapes } in all) (c.loop-place.invariant ∙ all)

-- they are shapes that a mission may have
pub returns-clause-fit : goal.returns-clause-fit
returns-clause-fit c = rw (returns-clause-shapes c) (sound_shapes c.args.sensors (program_of c.args.program.now) c.requires.sensors c.requires.program)
