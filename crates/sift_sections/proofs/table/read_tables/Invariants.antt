use Rattle.std.proofs.Common.{◌≡◌, ◌<◌, ℕ, map, take}
use Rattle.toml.specs.View.{table_view}
use Rattle.sift_table.specs.Schedule.{schedule_of}
use Rattle.sift_sections.specs.Table.{schedule_in}
use Rattle.sift_sections.specs.laws.Named.{BreaksPositions}
use Rattle.sift_sections.proofs.table.read_tables.Given as goal

-- the schedules so far, and no table so far breaks the rule
abbrev pub invariant-loop-place : goal.invariant-loop-place
invariant-loop-place l =
    (map schedule_of l.schedules.items ≡ take l.place (map (λ table. schedule_in l.period (table_view table.now)) l.tables))
    × ((at : ℕ) → at < l.place → ¬ BreaksPositions (map (λ table. table_view table.now) l.tables) at)
