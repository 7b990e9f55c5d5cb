-- Why a document states no mission.
use Rattle.std.specs.Prelude.{◌≡◌, ◌<◌, ◌≤◌, ◌⊎◌, ℕ, min, List, length, take}
use Rattle.std.specs.List.{All}
use Rattle.toml.specs.Data.{Members}
use Rattle.sift_base.specs.Shapes.{AllShapes}
use Rattle.sift_base.specs.declared.stop.Stop.{Stop}
use Rattle.sift_base.specs.declared.stop.Stop.TheVariants as stop
use Rattle.sift_compile.specs.Length.{code_limit, task_length, task_steps}
use Rattle.sift_lang.specs.Tree.{TaskTree}
use Rattle.sift_parse.specs.declared.task.ParseStop.{ParseStop}
use Rattle.sift_parse.specs.declared.task.ParseStop.TheVariants as parse
use Rattle.sift_parse.specs.Outcome.{IsStopped}
use Rattle.sift_parse.specs.Roll.{Roll}
use Rattle.sift_script.specs.Rules as scripts
use Rattle.sift_table.specs.Rules as tables
use Rattle.sift_table.specs.Schedule.{Schedule}
use Rattle.sift_mission.specs.Data.{MissionData, shapes_in}
use Rattle.sift_document.specs.Rules.{BreaksFirst, EachMatches, HoldsOf}
use Rattle.sift_scenario.specs.declared.mission.Refused.{Refused}
use Rattle.sift_scenario.specs.declared.mission.Refused.TheVariants.{Scenario, Task, Table, Script}
use Rattle.sift_scenario.specs.Mission.{rules_of, IsLawful, HasGoodTables, IsStated}
use Rattle.sift_scenario.specs.Program.{AreAllowed, IsTreeOf, roll_for, steps_left, turn_of}
use Rattle.sift_scenario.specs.Sensor.{sensor_names}
use Rattle.sift_scenario.specs.Task.{AreForms, Form, text, tasks_of}

-- ---- a text, or its code

-- the refusal of a task whose text is no task, with its kind and its place in the text; or want of memory
abbrev pub refusal_of : ℕ → ParseStop → Stop Refused
refusal_of task (parse.Lex at) = stop.Refused (Task task 1 at)
refusal_of task (parse.Syntax at) = stop.Refused (Task task 2 at)
refusal_of task (parse.UnknownName at) = stop.Refused (Task task 3 at)
refusal_of task (parse.Later at) = stop.Refused (Task task 4 at)
refusal_of task (parse.Limit which at) = stop.Refused (Task task 5 at)
refusal_of task parse.NoMemory = stop.NoMemory

-- a text that is no task
pub record IsNoTask (roll : Roll) (task : ℕ) (form : Form) (refused : Refused) : Type 0 where
  pub bytes : List ℕ
  pub form_is : form ≡ text bytes
  pub parsed : ParseStop
  pub told : IsStopped roll bytes parsed
  pub refused_is : refusal_of task parsed ≡ stop.Refused refused

-- a number as it is told: one above the last of 32 bits is told as that
abbrev pub told_number : ℕ → ℕ
told_number n = min n 4294967295

-- a task whose code is too long: kind 6, with its length; or isn't, but takes more steps than are left: kind 7, with their number
abbrev pub IsOver : (left task : ℕ) → TaskTree → Refused → Type 0
IsOver left task tree refused =
    ((code_limit < task_length tree) × (refused ≡ Task task 6 (told_number (task_length tree))))
    ⊎ ((task_length tree ≤ code_limit) × (left < task_steps tree) × (refused ≡ Task task 7 (told_number (task_steps tree))))

-- the task is refused for its text, which is no task, or has a tree and is refused for its code
abbrev pub IsFormRefused : Roll → (left task : ℕ) → Form → Refused → Type 0
IsFormRefused roll left task form refused =
    IsNoTask roll task form refused ⊎ ((tree : TaskTree) × IsTreeOf roll form tree × IsOver left task tree refused)

-- the first of the tasks of these forms that is refused is this one, after tasks with these trees
pub record IsFirstRefused (roll : Roll) (forms : List Form) (refused : Refused) : Type 0 where
  pub task : ℕ
  pub trees : List TaskTree
  pub as_many : length trees ≡ task
  pub earlier : EachMatches (λ other form tree. IsTreeOf (turn_of other roll) form tree) forms trees
  pub allowed : AreAllowed trees
  pub here : HoldsOf forms task (λ form. IsFormRefused (turn_of task roll) (steps_left trees) task form refused)

-- ---- a table

-- the first of these tables that isn't good for tasks of these shapes has this size, and breaks this rule first, in this row
pub record IsFirstBadTable (schedules : List Schedule) (shapes : AllShapes) (size row rule : ℕ) : Type 0 where
  pub place : ℕ
  pub earlier : All (λ table. tables.IsGood table shapes) (take place schedules)
  pub here : HoldsOf schedules place (λ table. (table.size ≡ size) × tables.IsFirstBroken table shapes rule row)

-- ---- all of them

-- what stands where a document is refused: a rule is broken, or a task of a document that keeps all rules is refused, or a table of what it
-- states isn't good, or all tables are and its script isn't
abbrev pub IsRefusedWith : Members → Refused → Type 0
IsRefusedWith document (Scenario rule place) = BreaksFirst (rules_of document) rule place
IsRefusedWith document (Task task kind at) =
    (forms : List Form) × IsLawful document × AreForms (tasks_of document) forms
    × IsFirstRefused (roll_for (sensor_names document) (tasks_of document)) forms (Task task kind at)
IsRefusedWith document (Table size row rule) =
    (mission : MissionData) × IsStated document mission × IsFirstBadTable mission.tables (shapes_in mission) size row rule
IsRefusedWith document (Script entry rule) =
    (mission : MissionData) × IsStated document mission × HasGoodTables mission × scripts.IsFirstBroken mission.script rule entry
