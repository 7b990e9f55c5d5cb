use Rattle.std.proofs.Common.{◌≡◌, true}
use Rattle.sift_mission.specs.Parts.{flown_of}
use Rattle.sift_flight.specs.Figures.{margin_before}
use Rattle.sift_flight.specs.Told.{told}
use Rattle.sift_flight.proofs.figures.margin_at.Given as goal

-- the frames so far are sound
abbrev pub invariant-loop-g : goal.invariant-loop-g
invariant-loop-g l = margin_before (flown_of l.mission) (told (flown_of l.mission) l.flight) l.g ≡ true
