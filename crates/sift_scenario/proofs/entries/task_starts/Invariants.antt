use Rattle.std.proofs.Common.{◌≡◌, ◌<◌, ℕ, Some, map, take}
use Rattle.toml.specs.View.{table_view}
use Rattle.sift_scenario.specs.Task.{start_words}
use Rattle.sift_scenario.proofs.Named.{BreaksStarts}
use Rattle.sift_scenario.proofs.entries.task_starts.Given as goal

-- the start words of the tasks so far, none of which breaks the rule
abbrev pub invariant-loop-place : goal.invariant-loop-place
invariant-loop-place l =
    (map (λ words. Some words.items) l.starts.items ≡ take l.place (map (λ task. start_words (table_view task.now)) l.tasks))
    × ((at : ℕ) → at < l.place → ¬ BreaksStarts (map (λ task. table_view task.now) l.tasks) at)
