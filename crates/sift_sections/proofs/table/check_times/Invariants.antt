use Rattle.std.proofs.Common.{◌<◌, ℕ, map}
use Rattle.toml.specs.View.{table_view}
use Rattle.sift_sections.specs.laws.Named.{BreaksTimes}
use Rattle.sift_sections.proofs.table.check_times.Given as goal

-- no table so far breaks the rule
abbrev pub invariant-loop-place : goal.invariant-loop-place
invariant-loop-place l = (at : ℕ) → at < l.place → ¬ BreaksTimes (map (λ table. table_view table.now) l.tables) at
