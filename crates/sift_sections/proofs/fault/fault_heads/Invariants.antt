use Rattle.std.proofs.Common.{◌≡◌, ◌<◌, ℕ, Some, map, take}
use Rattle.toml.specs.View.{table_view}
use Rattle.sift_sections.specs.Fault.{from_of, unit_of}
use Rattle.sift_sections.specs.laws.Named.{BreaksHeads}
use Rattle.sift_sections.proofs.fault.fault_heads.Given as goal

-- the units and the first frames of the faults so far, none of which breaks the rule
abbrev pub invariant-loop-place : goal.invariant-loop-place
invariant-loop-place l =
    (map (λ head. Some head.unit) l.heads.items ≡ take l.place (map (λ fault. unit_of (table_view fault.now)) l.tables))
    × (map (λ head. Some head.from) l.heads.items ≡ take l.place (map (λ fault. from_of (table_view fault.now)) l.tables))
    × ((at : ℕ) → at < l.place → ¬ BreaksHeads (map (λ fault. table_view fault.now) l.tables) at)
