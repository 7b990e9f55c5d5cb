use Rattle.std.proofs.Common.{◌≡◌, ◌<◌, ℕ, Some, map, take}
use Rattle.toml.specs.View.{table_view}
use Rattle.sift_scenario.specs.Task.{BreaksNames, name_of}
use Rattle.sift_scenario.proofs.entries.names_in.Given as goal

-- the names of the entries so far, none of which breaks the rule
abbrev pub invariant-loop-place : goal.invariant-loop-place
invariant-loop-place l =
    (map (λ name. Some name.bytes) l.names.items ≡ take l.place (map (λ task. name_of (table_view task.now)) l.tables))
    × ((at : ℕ) → at < l.place → ¬ BreaksNames (map (λ task. table_view task.now) l.tables) at)
