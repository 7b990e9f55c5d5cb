use Rattle.std.proofs.Common.{◌≡◌, ◌*◌, ◌≤◌, take, map}
use Rattle.sift_lang.specs.Tree.{tree_of}
use Rattle.sift_program.specs.Program.{output_count}
use Rattle.sift_mission.proofs.mission.Mission.first_word.Given as goal

-- the words of the tasks so far
abbrev pub invariant-loop-task : goal.invariant-loop-task
invariant-loop-task l =
    (l.first ≡ output_count (map tree_of (take l.task-index (take l.fn.t l.fn.self.program.tasks.items)))) × (l.first ≤ 255 * l.task-index)
