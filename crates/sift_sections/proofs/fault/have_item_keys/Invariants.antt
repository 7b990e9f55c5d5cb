use Rattle.std.proofs.Common.{map, take}
use Rattle.std.specs.List.{All}
use Rattle.toml.specs.View.{view}
use Rattle.sift_document.specs.Document.{IsTableOf}
use Rattle.sift_sections.specs.Item.{item_keys}
use Rattle.sift_sections.proofs.fault.have_item_keys.Given as goal

-- each entry so far is a table with known keys
abbrev pub invariant-loop-entry : goal.invariant-loop-entry
invariant-loop-entry l = All (IsTableOf item_keys) (take l.entry-index (map (λ entry. view entry) l.entries))
