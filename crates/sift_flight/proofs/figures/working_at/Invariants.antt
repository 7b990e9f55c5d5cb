use Rattle.std.proofs.Common.{◌≡◌, All, take}
use Rattle.std.specs.List.{filter}
use Rattle.sift_mission.specs.Parts.{flown_of}
use Rattle.sift_flight.specs.Figures.{Works}
use Rattle.sift_flight.proofs.figures.working_at.Given as goal

-- the working units among the first ones
abbrev pub invariant-loop-i : goal.invariant-loop-i
invariant-loop-i l =
    (l.working.items ≡ filter (λ u. (flown_of l.mission).works u l.f) (take l.i l.config))
    × All (λ u. Works (flown_of l.mission) u l.f) l.working.items
