use Rattle.std.proofs.Common.{◌≡◌, length, replicate}
use Rattle.std.specs.Prelude.{pos}
use Rattle.sift_sections.proofs.clock.zeros.Given as goal

-- so many zeros so far
abbrev pub invariant-loop : goal.invariant-loop
invariant-loop l = (l.ticks.items ≡ replicate l.counter (pos 0)) × (length l.ticks.items ≡ l.counter)
