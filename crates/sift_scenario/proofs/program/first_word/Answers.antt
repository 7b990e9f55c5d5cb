use Rattle.std.proofs.Common.{◌+◌, map, take, refl, sym, ap, ◌∙◌, arith}
use Rattle.std.proofs.lemmas.List.{length-map, take-map, take_all}
use Rattle.std.specs.List.{sum}
use Rattle.std.proofs.lemmas.Grind.{common_steps}
use Rattle.sift_scenario.proofs.WordCounts.{within_all, sum_take-more}
use Rattle.sift_scenario.proofs.program.first_word.Goals as goal

-- no task was counted yet
pub loop-task-init : goal.loop-task-init
loop-task-init c = (refl, ap (take c.args.names.now.this) c.deref.ensures.value)

-- the words of all tasks are few
pub overflow_add-words : goal.overflow_add-words
overflow_add-words c =
    let items = take c.args.names.now.this c.deref.result.now in
    let more = sum_take-more (λ task. task.1) items c.loop-task.task-index c.task-item.result c.loop-task-test.true c.task-item.is in
    let most = within_all (λ task. task.1) c.args.names.now.tasks.items c.args.names.now.this (c.loop-task.task-index + 1) in
    let some = rw c.loop-task.invariant.1 at more in
    let so = rw c.loop-task.invariant.1 at c.loop-task.invariant.0 in
    omega (arith, some, most, so, c.requires.words)

-- a task more
pub loop-task-preserved : goal.loop-task-preserved
loop-task-preserved c =
    let items = take c.args.names.now.this c.deref.result.now in
    let more = sum_take-more (λ task. task.1) items c.loop-task.task-index c.task-item.result c.loop-task-test.true c.task-item.is in
    (omega (arith, more, c.loop-task.invariant.0), c.loop-task.invariant.1)

-- all tasks before this one were counted
pub returns : goal.returns
returns c =
    let items = take c.args.names.now.this c.deref.result.now in
    let all = take_all c.loop-task.task-index (map (λ task. task.1) items) (rw length-map c.loop-task-test.false) in
    c.loop-task.invariant.0 ∙ ap sum (all ∙ ap (map (λ task. task.1)) c.loop-task.invariant.1 ∙ sym (take-map (λ task. task.1) c.args.names.now.this c.args.names.now.tasks.items))

pub offset_bounds-task-items-task-index : goal.offset_bounds-task-items-task-index
offset_bounds-task-items-task-index c = grind (arith, common_steps)
