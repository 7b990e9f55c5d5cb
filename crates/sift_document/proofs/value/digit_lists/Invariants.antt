use Rattle.std.proofs.Common.{◌≡◌, Some, map, take}
use Rattle.toml.specs.View.{view}
use Rattle.sift_document.specs.Document.{digits_to, each_read}
use Rattle.sift_document.proofs.value.digit_lists.Given as goal

-- the lists so far
abbrev pub invariant-loop-entry : goal.invariant-loop-entry
invariant-loop-entry l = each_read (digits_to l.last) (take l.entry-index (map view l.entry-items)) ≡ Some (map (λ list. list.items) l.lists.items)
