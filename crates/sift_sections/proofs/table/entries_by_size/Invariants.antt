use Rattle.std.proofs.Common.{◌≡◌, ◌≢◌, ◌<◌, ℕ, None, map, take}
use Rattle.std.specs.List.{All}
use Rattle.toml.specs.View.{table_view, view}
use Rattle.sift_document.specs.Document.{members_of}
use Rattle.sift_document.specs.Rules.{HoldsOf}
use Rattle.sift_sections.specs.Table.{size_of, IsTableEntry}
use Rattle.sift_sections.proofs.table.entries_by_size.Given as goal

-- the tables so far, each with a size; and no entry so far is another value, has another key or another size
abbrev pub invariant-loop-place : goal.invariant-loop-place
invariant-loop-place l =
    (map (λ table. table_view table.now) l.tables.items ≡ take l.place (map (λ entry. members_of (view entry)) l.entries))
    × All (λ table. size_of (table_view table.now) ≢ None) l.tables.items
    × ((at : ℕ) → at < l.place → ¬ HoldsOf (map (λ entry. view entry) l.entries) at (λ entry. ¬ IsTableEntry l.version at entry))
