use Rattle.std.proofs.Common.{◌≡◌, Some, map, take}
use Rattle.toml.specs.View.{view}
use Rattle.sift_document.specs.Document.{each_read, integer_between}
use Rattle.sift_document.proofs.value.numbers_to.Given as goal

-- the numbers so far
abbrev pub invariant-loop-entry : goal.invariant-loop-entry
invariant-loop-entry l = each_read (integer_between 0 l.high) (take l.entry-index (map view l.entry-items)) ≡ Some l.list.items
