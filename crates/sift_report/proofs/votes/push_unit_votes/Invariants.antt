use Rattle.std.proofs.Common.{◌≡◌, ◌++◌, string_bytes}
use Rattle.std.specs.List.{flat_map, range_with_len}
use Rattle.sift_program.specs.Program.{first_word}
use Rattle.sift_mission.specs.Parts.{data_of, flown_of}
use Rattle.sift_flight.specs.Told.{told}
use Rattle.sift_report.proofs.votes.push_unit_votes.Given as goal
use Rattle.sift_report.specs.Votes.{task_votes}

-- the votes of the tasks so far are written, and the next task's words begin behind theirs
abbrev pub invariant-loop-t : goal.invariant-loop-t
invariant-loop-t l =
    (string_bytes l.text ≡ string_bytes l.initial.text
    ++ flat_map (task_votes (data_of l.mission) (told (flown_of l.mission) l.flight) l.f l.u) (range_with_len 0 l.t))
    × (l.first ≡ first_word (data_of l.mission).program.tasks l.t)
