use Rattle.std.proofs.Common.{◌≡◌, string_bytes}
use Rattle.std.specs.List.{flat_map, range_with_len}
use Rattle.sift_mission.specs.Parts.{data_of, flown_of}
use Rattle.sift_flight.specs.Told.{told}
use Rattle.sift_report.proofs.votes.votes_text.Given as goal
use Rattle.sift_report.proofs.Tells.{frame_votes}

-- the votes of the frames so far are written
abbrev pub invariant-loop-f : goal.invariant-loop-f
invariant-loop-f l = string_bytes l.text ≡ flat_map (frame_votes (data_of l.mission) (told (flown_of l.mission) l.flight)) (range_with_len 0 l.f)
