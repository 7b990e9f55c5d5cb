use Rattle.std.proofs.Common.{◌≡◌, length, map, replicate}
use Rattle.std.specs.Prelude.{pos}
use Rattle.sift_sections.proofs.clock.rows_of_zeros.Given as goal

-- so many rows of zeros so far
abbrev pub invariant-loop : goal.invariant-loop
invariant-loop l = (map (λ row. row.items) l.rows.items ≡ replicate l.counter (replicate l.units (pos 0))) × (length l.rows.items ≡ l.counter)
