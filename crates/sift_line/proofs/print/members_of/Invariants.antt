use Rattle.std.proofs.Common.{◌≡◌, take}
use Rattle.std.specs.List.{filter}
use Rattle.sift_base.specs.Units.{holds}
use Rattle.sift_line.proofs.print.members_of.Given as goal

-- the members among the first units
abbrev pub invariant-loop-i : goal.invariant-loop-i
invariant-loop-i l = l.list.items ≡ filter (holds l.units) (take l.i l.everyone)
