use Rattle.std.proofs.Common.{◌≡◌, Some, map, take, length}
use Rattle.toml.specs.View.{view}
use Rattle.sift_document.specs.Document.{each_read}
use Rattle.sift_sections.specs.Clock.{unit_ticks}
use Rattle.sift_sections.proofs.clock.unit_rows.Given as goal

-- the rows so far
abbrev pub invariant-loop-entry : goal.invariant-loop-entry
invariant-loop-entry l =
    (each_read (unit_ticks l.units l.far) (take l.entry-index (map view l.entries)) ≡ Some (map (λ row. row.items) l.rows.items)) × (length l.rows.items ≡ l.entry-index)
