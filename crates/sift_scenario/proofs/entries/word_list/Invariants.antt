use Rattle.std.proofs.Common.{◌≡◌, Some, map, take}
use Rattle.toml.specs.View.{view}
use Rattle.sift_document.specs.Document.{each_read, word_value}
use Rattle.sift_scenario.proofs.entries.word_list.Given as goal

-- the words so far
abbrev pub invariant-loop-entry : goal.invariant-loop-entry
invariant-loop-entry l = each_read word_value (take l.entry-index (map view l.entries)) ≡ Some l.words.items
