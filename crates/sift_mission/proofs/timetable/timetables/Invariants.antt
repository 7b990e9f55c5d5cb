use Rattle.std.proofs.Common.{◌≡◌, ◌<◌, ℕ, length}
use Rattle.std.specs.Prelude.{slice_index_or}
use Rattle.sift_mission.specs.Parts.{data_of}
use Rattle.sift_mission.specs.PartsFit.{table_at}
use Rattle.sift_mission.specs.Timetable.{IsTimetableOf}
use Rattle.sift_mission.specs.declared.timetable.Timetable.{Timetable}
use Rattle.sift_mission.proofs.timetable.timetables.Given as goal

-- the tables so far have their timetables
abbrev pub invariant-loop-i : goal.invariant-loop-i
invariant-loop-i l =
    (length l.times ≡ 5) × ((j : ℕ) (t : Timetable) → j < l.i → IsTimetableOf (data_of l.fn.parts) (table_at (data_of l.fn.parts) j) (slice_index_or l.times j t))
