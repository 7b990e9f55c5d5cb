use Rattle.std.proofs.Common.{◌≡◌, map, take}
use Rattle.sift_line.specs.Bad.{catch_of}
use Rattle.sift_line.proofs.catch.catches_in.Given as goal

-- the catches of the units so far
abbrev pub invariant-loop-unit : goal.invariant-loop-unit
invariant-loop-unit l = l.list.items ≡ map (catch_of l.caught) (take l.unit-index l.unit-items)
