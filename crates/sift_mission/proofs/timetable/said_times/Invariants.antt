use Rattle.std.proofs.Common.{◌≡◌, ◌<◌, ℕ, length}
use Rattle.std.specs.Prelude.{slice_index}
use Rattle.sift_base.specs.Layout.{slot_kind}
use Rattle.sift_table.specs.Timing.{due_in}
use Rattle.sift_mission.specs.Parts.{data_of}
use Rattle.sift_mission.specs.Data.{shapes_in}
use Rattle.sift_mission.proofs.timetable.said_times.Given as goal

-- the times of the slots so far
abbrev pub invariant-loop-i : goal.invariant-loop-i
invariant-loop-i l = (length l.times ≡ 90) × ((j : ℕ) → j < l.i → slice_index l.times j ≡ due_in l.fn.table (shapes_in (data_of l.fn.parts)) (slot_kind l.fn.parts.layout j))
