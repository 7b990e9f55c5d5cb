use Rattle.std.proofs.Common.{◌≡◌, ◌<◌, ℕ, None, length, map, take}
use Rattle.toml.specs.View.{table_view}
use Rattle.sift_script.specs.Script.{fault_of}
use Rattle.sift_document.specs.Rules.{HoldsOf}
use Rattle.sift_sections.specs.Fault.{fault_in, stated_storm}
use Rattle.sift_sections.proofs.fault.script_from.Given as goal

-- the faults so far, none of which breaks the rule
abbrev pub invariant-loop-items : goal.invariant-loop-items
invariant-loop-items l =
    (map fault_of l.entries.items ≡ take (length l.entries.items) (map (λ fault. fault_in (table_view fault.now)) l.tables))
    × (length l.entries.items ≡ length l.yielded)
    × ((at : ℕ) → at < length l.entries.items → ¬ HoldsOf (map (λ fault. table_view fault.now) l.tables) at (λ fault. stated_storm fault ≡ None))
