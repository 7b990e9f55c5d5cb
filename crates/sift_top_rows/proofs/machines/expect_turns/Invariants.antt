use Rattle.sift_core.specs.Courses.{course_of}
use Rattle.sift_core.specs.Storms.{IsUnderWay}
use Rattle.sift_mission.specs.Parts.{data_of}
use Rattle.sift_top_rows.proofs.machines.expect_turns.Given as goal

-- the flight is under way
abbrev pub invariant-loop-digit : goal.invariant-loop-digit
invariant-loop-digit g l = IsUnderWay (data_of l.mission) (course_of (data_of l.mission) l.machine l.rogues.items)
