use Rattle.std.proofs.Common.{◌≡◌, map, take}
use Rattle.std.specs.List.{filter}
use Rattle.sift_mission.specs.Parts.{flown_of}
use Rattle.sift_flight.specs.Told.{told}
use Rattle.sift_report.specs.Poll.{poll_of}
use Rattle.sift_report.proofs.poll.polls_of.Given as goal

-- the polls of the executors among the first units
abbrev pub invariant-loop-i : goal.invariant-loop-i
invariant-loop-i l = l.polls.items
    ≡ map (poll_of (told (flown_of l.mission) l.flight) l.f l.u l.word) (filter ((flown_of l.mission).executes l.config l.word) (take l.i l.config))
