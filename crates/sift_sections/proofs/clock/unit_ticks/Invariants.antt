use Rattle.std.proofs.Common.{◌≡◌, Some, map, take, length}
use Rattle.toml.specs.View.{view}
use Rattle.sift_document.specs.Document.{each_read}
use Rattle.sift_sections.specs.Clock.{ticks_within}
use Rattle.sift_sections.proofs.clock.unit_ticks.Given as goal

-- the ticks so far
abbrev pub invariant-loop-entry : goal.invariant-loop-entry
invariant-loop-entry l = (each_read (ticks_within l.far) (take l.entry-index (map view l.entries)) ≡ Some l.ticks.items) × (length l.ticks.items ≡ l.entry-index)
