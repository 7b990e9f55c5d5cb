-- The parts of a mission fit: the numbers are within the limits, and each part is one for the others.
use Rattle.std.specs.Prelude.{◌≡◌, ℕ, ◌+◌, ◌<◌, ◌≤◌, List, [], length, slice_index_or, ℤ, pos, ◌≤ℤ◌, ◌+ℤ◌}
use Rattle.std.specs.List.{All}
use Rattle.sift_base.specs.Layout.{least_units, sensor_limit}
use Rattle.sift_base.specs.Units.{unit_limit}
use Rattle.sift_clock.specs.Distance.{IsWithin}
use Rattle.sift_program.specs.Program.{IsSoundProgram, output_count}
use Rattle.sift_script.specs.Rules as scripts
use Rattle.sift_script.specs.Script.{outputs_of}
use Rattle.sift_skew.specs.Limits.{AreNumbers, IsAdmitted}
use Rattle.sift_table.specs.Rules as tables
use Rattle.sift_table.specs.Schedule.{Schedule, shortest_period}
use Rattle.sift_mission.specs.Data.{Clocks, MissionData, shapes_in}

-- ---- limits

-- the most frames of a mission
abbrev pub frame_limit : ℕ
frame_limit = 1000

-- the most subframes of a frame
abbrev pub longest_period : ℕ
longest_period = 64

-- the most words of a sensor
abbrev pub sensed_limit : ℕ
sensed_limit = 1000

-- the farthest offset from 0 at the start
abbrev pub start_limit : ℤ
start_limit = pos 8000

-- the numbers of the mission are within the limits
pub record AreWithinLimits (d : MissionData) : Type 0 where
  pub enough_units : least_units ≤ d.units
  pub few_units : d.units ≤ unit_limit
  pub some_frame : 1 ≤ d.frames
  pub few_frames : d.frames ≤ frame_limit
  pub long : shortest_period ≤ d.period
  pub short : d.period ≤ longest_period
  pub few_sensors : length d.sensors ≤ sensor_limit

-- ---- one part for the others

-- the layout has the mission's units, sensors and output words
pub record IsLaidOut (d : MissionData) : Type 0 where
  pub units : d.layout.units ≡ d.units
  pub sensors : d.layout.sensors ≡ length d.sensors
  pub words : d.layout.words ≡ output_count d.program.tasks

-- the table for the configurations of a size has that size and the mission's period, and meets all rules for its tasks
pub record IsTableFor (d : MissionData) (size : ℕ) (table : Schedule) : Type 0 where
  pub sized : table.size ≡ size
  pub timed : table.period ≡ d.period
  pub good : tables.IsGood table (shapes_in d)

-- the table that stands at a place, and an empty one past the list's end
abbrev pub table_at : MissionData → ℕ → Schedule
table_at d i = slice_index_or d.tables i (record { size = 0; period = 0; run = []; poll = []; at = []; shed = [] })

-- there is a table for each size of a configuration, from the least to that of all units
pub record AreTables (d : MissionData) : Type 0 where
  pub count : length d.tables + least_units ≡ d.units + 1
  pub each : (i : ℕ) → i < length d.tables → IsTableFor d (least_units + i) (table_at d i)

-- a sensor has a word at least, and no more than may be
abbrev pub HasWords : List ℕ → Type 0
HasWords words = (1 ≤ length words) × (length words ≤ sensed_limit)

-- so many clocks that are admitted: each has an offset at the start, near to 0 and to the others', a drift within the rate, and an error for
-- its reading of each
pub record AreClocks (units : ℕ) (c : Clocks) : Type 0 where
  pub numbers : AreNumbers c.skew c.error c.rate c.length
  pub admitted : IsAdmitted c.skew c.error c.rate c.length
  pub starts : length c.start ≡ units
  pub drifts : length c.drift ≡ units
  pub rows : length c.errors ≡ units
  pub columns : All (λ row. length row ≡ units) c.errors
  pub near : All (λ offset. IsWithin start_limit offset (pos 0)) c.start
  pub together : All (λ offset. All (λ other. offset ≤ℤ (other +ℤ c.skew)) c.start) c.start
  pub drifts_within : All (λ drift. IsWithin c.rate drift (pos 0)) c.drift
  pub errors_within : All (λ row. All (λ error. IsWithin c.error error (pos 0)) row) c.errors

-- the script was checked for this mission, and meets all rules
pub record IsScripted (d : MissionData) : Type 0 where
  pub layout : d.script.layout ≡ d.layout
  pub outputs : d.script.outputs ≡ outputs_of (shapes_in d)
  pub frames : d.script.frames ≡ d.frames
  pub good : scripts.IsGood d.script

-- ---- all of it

-- the parts fit
pub record PartsFit (d : MissionData) : Type 0 where
  pub limits : AreWithinLimits d
  pub layout : IsLaidOut d
  pub names : length d.names ≡ length d.program.tasks
  pub program : IsSoundProgram d.layout.sensors d.program
  pub sensors : All HasWords d.sensors
  pub tables : AreTables d
  pub clock : AreClocks d.units d.clock
  pub script : IsScripted d
