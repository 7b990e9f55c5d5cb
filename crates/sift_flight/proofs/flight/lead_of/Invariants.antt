use Rattle.std.proofs.Common.{◌≡◌, drop, unwrap_or}
use Rattle.std.specs.List.{find}
use Rattle.sift_flight.specs.Figures.{lead_of}
use Rattle.sift_mission.specs.Parts.{flown_of}
use Rattle.sift_flight.proofs.flight.lead_of.Given as goal

-- the lead unit isn't among the units so far
abbrev pub invariant-loop-i : goal.invariant-loop-i
invariant-loop-i l =
    lead_of (flown_of l.mission) l.f ≡ unwrap_or (find (λ u. (flown_of l.mission).works u l.f) (drop l.i l.everyone)) 0
