-- When slots are said and heard and tasks are run, as a mission keeps it. No public clause cites this module.
use Rattle.std.specs.Prelude.{◌≡◌, ◌≢◌, ℕ, ◌+◌, ◌<◌, ◌≤◌, List, length, slice_index, slice_index_or}
use Rattle.sift_base.specs.Layout.{slot_count, slot_kind}
use Rattle.sift_table.specs.Schedule.{Schedule, run_in}
use Rattle.sift_table.specs.Timing.{due_in, heard_in}
use Rattle.sift_mission.specs.Data.{MissionData, shapes_in}
use Rattle.sift_mission.specs.Fits.{slot_limit}
use Rattle.sift_mission.specs.PartsFit.{table_at}
use Rattle.sift_mission.specs.declared.timetable.Agenda.{Agenda}
use Rattle.sift_mission.specs.declared.timetable.Timetable.{Timetable}

-- of the first numbers, from one on, the first that has a time, and the count of them where none has
pub record IsNext (count : ℕ) (times : List ℕ) (time from next : ℕ) : Type 0 where
  pub after : from ≤ next
  pub within : next ≤ count
  pub passed : (i : ℕ) → from ≤ i → i < next → slice_index times i ≢ time
  pub found : next < count → slice_index times next ≡ time

-- an agenda links each number to the next that has its time, and each time to the first that has it
pub record IsLinked (a : Agenda) : Type 0 where
  pub few : a.count ≤ slot_limit
  pub next : (i : ℕ) → i < a.count → IsNext a.count a.times (slice_index a.times i) (i + 1) (slice_index a.next i)
  pub first : (time : ℕ) → time < 256 → IsNext a.count a.times time 0 (slice_index a.first time)

-- an agenda of the times that a function gives
pub record IsAgendaOf (count : ℕ) (time : ℕ → ℕ) (a : Agenda) : Type 0 where
  pub linked : IsLinked a
  pub size : a.count ≡ count
  pub each : (i : ℕ) → i < count → slice_index a.times i ≡ time i

-- the table has a row for each task of the mission, and as many subframes
pub record HasRowsFor (d : MissionData) (table : Schedule) : Type 0 where
  pub rows : length table.run ≡ length d.program.tasks
  pub period : table.period ≡ d.period

-- when slots are heard and said and tasks are run: those of a table
pub record IsTimetableOf (d : MissionData) (table : Schedule) (t : Timetable) : Type 0 where
  pub heard : IsAgendaOf (slot_count d.layout) (λ i. heard_in table (shapes_in d) (slot_kind d.layout i)) t.heard
  pub said : IsAgendaOf (slot_count d.layout) (λ i. due_in table (shapes_in d) (slot_kind d.layout i)) t.said
  pub run : IsAgendaOf (length d.program.tasks) (run_in table) t.run

-- those of a mission's tables, in their order
abbrev pub AreTimetables : MissionData → List Timetable → Type 0
AreTimetables d times = (i : ℕ) (t : Timetable) → i < length d.tables → IsTimetableOf d (table_at d i) (slice_index_or times i t)
