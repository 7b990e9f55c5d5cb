use Rattle.std.proofs.Common.{◌≡◌, ◌++◌, take, string_bytes}
use Rattle.std.specs.List.{flat_map}
use Rattle.sift_mission.specs.Parts.{data_of, flown_of}
use Rattle.sift_flight.specs.Told.{told}
use Rattle.sift_report.specs.Votes.{unit_votes}
use Rattle.sift_report.proofs.votes.push_frame_votes.Given as goal

-- the votes of the units so far are written
abbrev pub invariant-loop-i : goal.invariant-loop-i
invariant-loop-i l = string_bytes l.text ≡ string_bytes l.initial.text
    ++ flat_map (unit_votes (data_of l.mission) (told (flown_of l.mission) l.flight) l.f) (take l.i l.everyone)
