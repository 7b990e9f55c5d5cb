use Rattle.std.proofs.Common.{◌≡◌, map, take}
use Rattle.sift_unit_frame.specs.Memory.{place_at}
use Rattle.sift_unit_frame.proofs.noted.places_of.Given as goal

-- the places of the units so far
abbrev pub invariant-loop-unit : goal.invariant-loop-unit
invariant-loop-unit l = l.found.items ≡ map (place_at l.fn.places) (take l.unit-index l.fn.units)
