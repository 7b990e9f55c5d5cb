use Rattle.std.proofs.Common.{◌≡◌, ◌++◌, string_bytes}
use Rattle.std.specs.List.{flat_map, range_with_len}
use Rattle.sift_mission.specs.Parts.{data_of, flown_of}
use Rattle.sift_flight.specs.Told.{told}
use Rattle.sift_report.specs.Votes.{vote_text}
use Rattle.sift_report.proofs.votes.push_task_votes.Given as goal

-- the votes of the outputs so far are written
abbrev pub invariant-loop-j : goal.invariant-loop-j
invariant-loop-j l = string_bytes l.text ≡ string_bytes l.initial.text
    ++ flat_map (λ j. vote_text (data_of l.mission) (told (flown_of l.mission) l.flight) l.f l.u (record { t = l.t; j = j })) (range_with_len 0 l.j)
