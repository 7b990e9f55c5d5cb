use Rattle.std.proofs.Common.{◌≡◌, ◌<◌, ℕ, length}
use Rattle.std.specs.Prelude.{slice_index}
use Rattle.sift_table.specs.Schedule.{run_in}
use Rattle.sift_mission.proofs.timetable.run_times.Given as goal

-- the times of the tasks so far
abbrev pub invariant-loop-t : goal.invariant-loop-t
invariant-loop-t l = (length l.times ≡ 90) × ((j : ℕ) → j < l.t → slice_index l.times j ≡ run_in l.fn.table j)
