use Rattle.std.proofs.Common.{◌≡◌, map, take}
use Rattle.std.specs.List.{sum}
use Rattle.sift_scenario.proofs.program.first_word.Given as goal

-- the words of the tasks so far
abbrev pub invariant-loop-task : goal.invariant-loop-task
invariant-loop-task l =
    (l.words ≡ sum (take l.task-index (map (λ task. task.1) l.task-items)))
    × (l.task-items ≡ take l.names.this l.names.tasks.items)
