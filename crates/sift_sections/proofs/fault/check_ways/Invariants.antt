use Rattle.std.proofs.Common.{◌<◌, ℕ, map}
use Rattle.toml.specs.View.{table_view}
use Rattle.sift_sections.specs.laws.Named.{BreaksWays}
use Rattle.sift_sections.proofs.fault.check_ways.Given as goal

-- no fault so far breaks the rule
abbrev pub invariant-loop-place : goal.invariant-loop-place
invariant-loop-place l = (at : ℕ) → at < l.place → ¬ BreaksWays (map (λ fault. table_view fault.now) l.tables) at
