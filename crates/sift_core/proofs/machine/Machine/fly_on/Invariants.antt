use Rattle.std.proofs.Common.{◌≡◌, ℕ}
use Rattle.sift_mission.specs.Parts.{data_of}
use Rattle.sift_core.specs.Machines.{layout_of}
use Rattle.sift_core.specs.Courses.{course_of, rest}
use Rattle.sift_core.specs.Storms.{CarriesOn, IsUnderWay}
use Rattle.sift_core.specs.Turns.{AfterTurns}
use Rattle.sift_core.proofs.machine.Machine.fly_on.Given as goal

-- some turns were taken
abbrev pub invariant-loop-drawer : goal.invariant-loop-drawer
invariant-loop-drawer g l = record {
  under_way : IsUnderWay (data_of l.mission) (course_of (data_of l.mission) l.self l.rogues);
  layout : layout_of l.self ≡ layout_of l.fn.self;
  after : (k : ℕ) × AfterTurns g.R.Rogue.allows (data_of l.mission) l.order (course_of (data_of l.mission) l.fn.self l.fn.rogues) k l.drawer (course_of (data_of l.mission) l.self l.rogues);
  storms : CarriesOn g.R.Rogue.allows (data_of l.mission) (course_of (data_of l.mission) l.fn.self l.fn.rogues) (course_of (data_of l.mission) l.self l.rogues);
}

-- and each brought the flight nearer to its end
abbrev pub decreases-loop-drawer : goal.decreases-loop-drawer
decreases-loop-drawer g l = rest (data_of l.mission) (course_of (data_of l.mission) l.self l.rogues)
