use Rattle.sift_line.proofs.Ascending.{UnitsRead}
use Rattle.sift_line.proofs.number.read_units.Given as goal

-- the units so far
abbrev pub invariant-loop-digit : goal.invariant-loop-digit
invariant-loop-digit l = UnitsRead l.digit-items l.digit-index l.least l.units.items
