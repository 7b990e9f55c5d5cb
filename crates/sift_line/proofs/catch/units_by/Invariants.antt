use Rattle.std.proofs.Common.{take}
use Rattle.sift_line.specs.Bad.{AreTold}
use Rattle.sift_line.proofs.catch.units_by.Given as goal

-- the units that the catches so far tell
abbrev pub invariant-loop-catch : goal.invariant-loop-catch
invariant-loop-catch l = AreTold (take l.catch-index l.list) l.kind l.units
