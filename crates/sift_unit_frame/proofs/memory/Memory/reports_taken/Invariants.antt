use Rattle.std.proofs.Common.{◌≡◌, map, take}
use Rattle.sift_mission.specs.Parts.{flown_of}
use Rattle.sift_unit_frame.specs.Tidings.{report_taken}
use Rattle.sift_unit_frame.specs.Memories.{memory_of}
use Rattle.sift_unit_frame.proofs.memory.Memory.reports_taken.Given as goal

-- the reports of the units so far
abbrev pub invariant-loop-position : goal.invariant-loop-position
invariant-loop-position l =
    l.reports.items ≡ map (report_taken (flown_of l.fn.mission) l.fn.config l.fn.unit (memory_of l.fn.self)) (take l.position l.fn.config)
