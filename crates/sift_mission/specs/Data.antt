-- A mission: the data that a document states, and the record that flights see. What else holds of it stands apart, in premises of their own.
use Rattle.std.specs.Prelude.{ℕ, List, ℤ, ◌≡◌, ◌≤◌, length, Bool, true, Option}
use Rattle.sift_base.specs.Shapes.{AllShapes}
use Rattle.sift_base.specs.declared.slots.Layout.{Layout}
use Rattle.sift_program.specs.Program.{ProgramTree, program_shapes}
use Rattle.sift_script.specs.Script.{FaultScript}
use Rattle.sift_table.specs.Schedule.{Schedule}
use Rattle.sift_base.specs.Layout.{least_units}
use Rattle.sift_base.specs.Units.{has, IsAscending}
use Rattle.sift_base.specs.declared.slots.Slot.{Slot}

-- ---- what a document states, as numbers and lists

-- the clocks of a mission, in ticks: the skew, the reading error, the drift in a frame and the length of a subframe that it states, and by
-- unit the offset at the start, the drift in a frame, and the error of its reading of each unit
pub record Clocks : Type 0 where
  pub skew : ℤ
  pub error : ℤ
  pub rate : ℤ
  pub length : ℤ
  pub start : List ℤ
  pub drift : List ℤ
  pub errors : List (List ℤ)

-- the data: how many units, frames and subframes of a frame there are, the layout of slots, the tasks' names, the program, a table for
-- each size of a configuration, each sensor's words, the clocks and the script of faults
pub record MissionData : Type 0 where
  pub units : ℕ
  pub frames : ℕ
  pub period : ℕ
  pub layout : Layout
  pub names : List (List ℕ)
  pub program : ProgramTree
  pub tables : List Schedule
  pub sensors : List (List ℕ)
  pub clock : Clocks
  pub script : FaultScript

-- the shapes of the mission's tasks
abbrev pub shapes_in : MissionData → AllShapes
shapes_in d = program_shapes d.layout.sensors d.program

-- ---- a mission as flights see it, and its configurations

-- a mission: its units and frames, its slots, its tasks, its sensors, its script of faults and its clocks
pub record FlownMission : Type 0 where
  -- the units, in ascending order, how many frames there are, and how many subframes a frame has
  pub units : List ℕ
  pub frames : ℕ
  pub period : ℕ
  -- how many sensors, output words, tasks and slots there are
  pub sensors : ℕ
  pub words : ℕ
  pub tasks : ℕ
  pub slots : ℕ
  -- the number of a slot, and the slot of a number
  pub number : Slot → ℕ
  pub kind : ℕ → Slot
  -- under a configuration: in which subframe a slot is said, and in which it is heard
  pub due : List ℕ → Slot → ℕ
  pub heard_in : List ℕ → Slot → ℕ
  -- the task that puts out a word; under a configuration: in which subframe a task runs, and whether a unit runs the task of a word
  pub task : ℕ → ℕ
  pub run_in : List ℕ → ℕ → ℕ
  pub executes : List ℕ → ℕ → ℕ → Bool
  -- under a configuration: the numbers of the tasks that its table sheds
  pub shed : List ℕ → List ℕ
  -- the task of the first word reads the second in the frame in which it is made
  pub needs : ℕ → ℕ → Bool
  -- the word that its task makes of the agreed words, this frame's words and those of the frame before; and the words before frame 0
  pub word : ℕ → List ℕ → List ℕ → List ℕ → ℕ
  pub starts : List ℕ
  -- the word of a sensor in a frame
  pub sensed : ℕ → ℕ → ℕ
  -- whether a unit works in a frame; what it says to a unit in a frame and slot in place of its own word; the frame from which on it is stray
  pub works : ℕ → ℕ → Bool
  pub override : ℕ → ℕ → Slot → ℕ → Option (Option ℕ)
  pub storm : ℕ → Option ℕ
  -- in ticks: the skew, the reading error, the drift in a frame and the length of a subframe that the mission states
  pub skew : ℤ
  pub error : ℤ
  pub rate : ℤ
  pub length : ℤ
  -- in ticks: a unit's offset at the start, its drift in a frame, and the error of the first unit's reading of the second
  pub offset : ℕ → ℤ
  pub drift : ℕ → ℤ
  pub errors : ℕ → ℕ → ℤ

-- a configuration of the mission: an ascending list of at least four of its units
pub record IsConfigOf (m : FlownMission) (us : List ℕ) : Type 0 where
  pub enough : least_units ≤ length us
  pub ascending : IsAscending us
  pub inside : (u : ℕ) → has us u ≡ true → has m.units u ≡ true
