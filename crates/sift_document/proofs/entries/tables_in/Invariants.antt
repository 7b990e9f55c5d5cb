use Rattle.std.proofs.Common.{◌≡◌, ◌<◌, ℕ, map, take}
use Rattle.toml.specs.View.{table_view, view}
use Rattle.sift_document.specs.Document.{IsTableOf, members_of}
use Rattle.sift_document.specs.Rules.{HoldsOf}
use Rattle.sift_document.proofs.entries.tables_in.Given as goal

-- the tables so far, and no entry so far is another value or has another key
abbrev pub invariant-loop-place : goal.invariant-loop-place
invariant-loop-place l =
    (map (λ table. table_view table.now) l.tables.items ≡ take l.place (map (λ entry. members_of (view entry)) l.entries))
    × ((at : ℕ) → at < l.place → ¬ HoldsOf (map (λ entry. view entry) l.entries) at (λ entry. ¬ IsTableOf (map (λ key. key.now) l.known) entry))
