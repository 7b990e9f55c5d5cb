-- The entries of `task`, beside the rules of tasks.
use Rattle.std.proofs.Common.{◌≡◌, ◌<◌, ◌≤◌, ◌==◌, ℕ, List, [], ◌∷◌, length, map, false, inl, inr, arith}
use Rattle.toml.specs.Data.{Data, Members}
use Rattle.toml.specs.View.{view}
use Rattle.toml.specs.declared.value.Value.{Value}
use Rattle.sift_base.specs.Shapes.{task_limit}
use Rattle.sift_document.specs.Rules.{HoldsOf}
use Rattle.sift_document.specs.Document.{IsTableOf}
use Rattle.sift_scenario.proofs.Named.{task_keys}
use Rattle.sift_scenario.specs.Task.{task_entries, BreaksTasks}

-- as many entries as may be, of which the one at a place is a table with known keys
pub keeps_tasks :
    (document : Members) (entries : List Data) (at : ℕ)
    → entries ≡ task_entries document → (0 < length entries) × (length entries ≤ task_limit) → ¬ HoldsOf entries at (λ entry. ¬ IsTableOf task_keys entry)
    → ¬ BreaksTasks document at
keeps_tasks document entries at same number known (inl other) = other.1 (rw (← same) number)
keeps_tasks document entries at same number known (inr entry) = known (rw same entry)

-- a list that isn't empty has an entry
pub some_entry : (entries : List Value) → false ≡ (length entries == 0) → 0 < length (map (λ entry. view entry) entries)
some_entry [] is = cc
some_entry (e ∷ es) is = omega arith
