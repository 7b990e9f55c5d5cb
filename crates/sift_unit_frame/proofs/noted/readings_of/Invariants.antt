use Rattle.std.proofs.Common.{◌≡◌, map, not, nat_eq, take}
use Rattle.std.specs.List.{filter}
use Rattle.sift_mission.specs.Parts.{flown_of}
use Rattle.sift_unit_frame.specs.Memory.{reading_at}
use Rattle.sift_unit_frame.proofs.noted.readings_of.Given as goal

-- the readings of the others among the units so far
abbrev pub invariant-loop-position : goal.invariant-loop-position
invariant-loop-position l =
    l.readings.items ≡ map (reading_at (flown_of l.fn.mission) l.fn.unit l.fn.clk l.fn.places) (filter (λ v. not (nat_eq v l.fn.unit)) (take l.position l.fn.config))
