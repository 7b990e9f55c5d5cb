use Rattle.std.proofs.Common.{◌≡◌, map}
use Rattle.std.specs.List.{filter, range_with_len}
use Rattle.sift_lang.specs.Tree.{tree_of}
use Rattle.sift_program.specs.Program.{first_word, reads_task, task_at}
use Rattle.sift_program.proofs.program.needs_of.Given as goal

-- those of the tasks so far, and the number of the next one's first word
abbrev pub invariant-loop-earlier : goal.invariant-loop-earlier
invariant-loop-earlier l =
    (l.needs.items ≡ filter (reads_task (map tree_of l.tasks) (task_at (map tree_of l.tasks) l.place)) (range_with_len 0 l.earlier))
    × (l.first ≡ first_word (map tree_of l.tasks) l.earlier)
