use Rattle.std.proofs.Common.{◌-◌, ◌≤◌, ◌+◌, length}
use Rattle.std.specs.Io.KnownBytes.{Consumes}
use Rattle.sift_io.specs.Reading.{CountsNothing}
use Rattle.sift_io.proofs.whole.read_all.Given as goal

-- all that was taken so far is kept, and is within the limit; no read failed, and none met the end
abbrev pub invariant-loop-n : goal.invariant-loop-n
invariant-loop-n g l =
    let inflow = g.S.Source.inflow in
    Consumes (inflow l.initial.source).left (inflow l.source).left l.all.items
    × (length l.all.items ≤ l.limit)
    × CountsNothing (inflow l.initial.source) (inflow l.source)

-- how many more bytes may be asked for
abbrev pub decreases-loop-n : goal.decreases-loop-n
decreases-loop-n g l = l.limit + 1 - length l.all.items
