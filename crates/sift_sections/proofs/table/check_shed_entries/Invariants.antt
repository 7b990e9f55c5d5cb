use Rattle.std.proofs.Common.{◌<◌, ℕ, map}
use Rattle.toml.specs.View.{view}
use Rattle.sift_document.specs.Document.{members_of}
use Rattle.sift_sections.specs.laws.Named.{BreaksShed}
use Rattle.sift_sections.proofs.table.check_shed_entries.Given as goal

-- no entry so far breaks the rule
abbrev pub invariant-loop-place : goal.invariant-loop-place
invariant-loop-place l = (at : ℕ) → at < l.place → ¬ BreaksShed (map (λ entry. members_of (view entry)) l.entries) at
