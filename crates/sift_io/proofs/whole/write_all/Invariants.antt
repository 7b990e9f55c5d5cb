use Rattle.std.proofs.Common.{◌≡◌, ◌++◌, List, ℕ, length}
use Rattle.std.specs.Io.KnownBytes.{Appends}
use Rattle.sift_io.proofs.whole.write_all.Given as goal

-- what was written so far, and what is left of the bytes
abbrev pub invariant-loop-rest : goal.invariant-loop-rest
invariant-loop-rest g l =
    let outflow = g.K.Sink.outflow in
    let begun = l.initial.sink in
    ((sent : List ℕ) × Appends (outflow begun).written (outflow l.sink).written sent × (sent ++ l.rest ≡ l.bytes))
    × ((outflow l.sink).faults ≡ (outflow begun).faults)

abbrev pub decreases-loop-rest : goal.decreases-loop-rest
decreases-loop-rest g l = length l.rest
