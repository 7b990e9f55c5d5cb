use Rattle.std.proofs.Common.{◌≡◌, ◌∙◌, ap, sym, take, take_all, map, arith}
use Rattle.std.proofs.lemmas.List.{take-map}
use Rattle.std.proofs.lemmas.Grind.{common_steps}
use Rattle.sift_lang.specs.Tree.{tree_of}
use Rattle.sift_program.specs.Program.{output_count}
use Rattle.sift_mission.proofs.mission.Mission.first_word.Goals as goal

pub returns : goal.returns
returns c =
    let tasks = c.args.self.now.program.tasks.items in
    let all : take c.loop-task.task-index (take c.args.t tasks) ≡ take c.args.t tasks
    = take_all c.loop-task.task-index (take c.args.t tasks) (rw (c.deref.ensures.value, c.parts.ensures.same) at c.loop-task-test.false) in
    c.loop-task.invariant.0 ∙ ap (λ ts. output_count (map tree_of ts)) all ∙ ap output_count (sym (take-map tree_of c.args.t tasks))

pub offset_bounds-task-items-task-index : goal.offset_bounds-task-items-task-index
offset_bounds-task-items-task-index c = grind (arith, common_steps)

pub overflow_add-first : goal.overflow_add-first
overflow_add-first c = grind (arith, common_steps)

pub slice_bounds-task-items-end : goal.slice_bounds-task-items-end
slice_bounds-task-items-end c = grind (arith, common_steps)

pub loop-task-preserved : goal.loop-task-preserved
loop-task-preserved c = grind (arith, common_steps)
