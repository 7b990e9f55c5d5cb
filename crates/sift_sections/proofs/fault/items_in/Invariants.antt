use Rattle.std.proofs.Common.{◌≡◌, Some, map, take}
use Rattle.toml.specs.View.{view}
use Rattle.sift_script.specs.Script.{change_of}
use Rattle.sift_document.specs.Document.{each_read, members_of}
use Rattle.sift_sections.specs.Item.{change_in}
use Rattle.sift_sections.proofs.fault.items_in.Given as goal

-- the changes of the items so far
abbrev pub invariant-loop-entry : goal.invariant-loop-entry
invariant-loop-entry l = each_read change_in (take l.entry-index (map (λ entry. members_of (view entry)) l.entries)) ≡ Some (map change_of l.items.items)
