use Rattle.std.proofs.Common.{◌≡◌, map, take}
use Rattle.sift_skew.specs.Figures.{AreInRange}
use Rattle.sift_mission.specs.Parts.{flown_of}
use Rattle.sift_flight.specs.Told.{told}
use Rattle.sift_flight.proofs.figures.offsets_of.Given as goal

-- the offsets of the units so far
abbrev pub invariant-loop-unit : goal.invariant-loop-unit
invariant-loop-unit l =
    (l.offsets.items ≡ map (λ u. ((told (flown_of l.mission) l.flight).account u l.f).clk) (take l.unit-index l.units))
    × AreInRange l.offsets.items
