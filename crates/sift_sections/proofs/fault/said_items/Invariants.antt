use Rattle.std.proofs.Common.{◌≡◌, ◌<◌, ℕ, Some, map, take}
use Rattle.toml.specs.View.{table_view}
use Rattle.sift_script.specs.Script.{change_of}
use Rattle.sift_sections.specs.Fault.{changes_of}
use Rattle.sift_sections.specs.laws.Named.{BreaksItems}
use Rattle.sift_sections.proofs.fault.said_items.Given as goal

-- the changes of the faults so far, none of which breaks the rule
abbrev pub invariant-loop-place : goal.invariant-loop-place
invariant-loop-place l =
    (map (λ items. Some (map change_of items.items)) l.said.items ≡ take l.place (map (λ fault. changes_of (table_view fault.now)) l.tables))
    × ((at : ℕ) → at < l.place → ¬ BreaksItems (map (λ fault. table_view fault.now) l.tables) at)
