use Rattle.std.proofs.Common.{[], ◌∷◌, ◌++◌, ◌≡◌, ap, get_or, sym, ◌∙◌}
use Rattle.sift_script.proofs.Views.{outputs_more}
use Rattle.sift_script.proofs.script.Parts.of.Goals as goal

pub loop-task-preserved : goal.loop-task-preserved
loop-task-preserved c =
    let tasks = c.args.shapes.now.tasks.items in
    let at = c.loop-task.task-index in
    let task = c.task-item.result in
    let is : task ≡ get_or tasks at task = rw (← c.deref-task-items.ensures.value) c.task-item.is in
    c.push.ensures.items ∙ ap (λ xs. xs ++ task.outputs ∷ []) c.loop-task.invariant
    ∙ sym (outputs_more tasks at task (rw (← c.deref-task-items.ensures.value) c.loop-task-test.true) is)
