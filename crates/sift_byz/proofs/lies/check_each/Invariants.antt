use Rattle.std.proofs.Common.{◌<◌, ℕ, map}
use Rattle.toml.specs.View.{view}
use Rattle.sift_byz.specs.Testing.{BreaksEntry}
use Rattle.sift_byz.proofs.lies.check_each.Given as goal

-- no entry so far breaks the rule
abbrev pub invariant-loop-place : goal.invariant-loop-place
invariant-loop-place l = (at : ℕ) → at < l.place → ¬ BreaksEntry l.rule (map (λ entry. view entry) l.entries) at
