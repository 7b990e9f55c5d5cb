use Rattle.std.proofs.Common.{◌≡◌, ℕ, take, ◌&&◌}
use Rattle.sift_base.specs.Units.{holds, has}
use Rattle.sift_table.specs.Schedule.{positions_of}
use Rattle.sift_mission.specs.Flown.{position_in}
use Rattle.sift_mission.proofs.crews.crew_by.Given as goal

-- the crew so far are those at the positions so far
abbrev pub invariant-loop-position : goal.invariant-loop-position
invariant-loop-position l = (v : ℕ) → holds l.crew v ≡ (has (take l.position l.fn.config) v && has (positions_of l.fn.table l.fn.t) (position_in l.fn.config v))
