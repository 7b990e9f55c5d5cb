-- Plans: tables of which each row is the earliest.
use Rattle.std.specs.Prelude.{◌≡◌, ℕ, ◌<◌, ◌≤◌, [], length, min}
use Rattle.std.specs.List.{All}
use Rattle.sift_base.specs.Layout.{least_units}
use Rattle.sift_base.specs.Shapes.{AllShapes, shape_at, task_limit}
use Rattle.sift_base.specs.Units.{unit_limit}
use Rattle.sift_table.specs.Rules.{least_executors}
use Rattle.sift_table.specs.Schedule.{Schedule, shortest_period}
use Rattle.sift_planner.specs.Earliest.{IsEarliestRow, IsOpen}

-- ---- what is asked for

-- the most subframes of a frame
abbrev pub longest_period : ℕ
longest_period = 64

-- a table for configurations of a size and frames of so many subframes, with so many copies of each task
pub record Wanted : Type 0 where
  pub size : ℕ
  pub period : ℕ
  pub copies : ℕ

-- the same, from its parts
abbrev pub wanted : (size period copies : ℕ) → Wanted
wanted size period copies = record { size = size; period = period; copies = copies }

-- its numbers are within the limits
pub record IsWithinLimits (w : Wanted) : Type 0 where
  pub enough_units : least_units ≤ w.size
  pub few_units : w.size ≤ unit_limit
  pub long : shortest_period ≤ w.period
  pub short : w.period ≤ longest_period
  pub enough_copies : least_executors ≤ w.copies
  pub few_copies : w.copies ≤ unit_limit

-- how many positions execute each task: one for each copy, and all where there are fewer
abbrev pub executors_of : Wanted → ℕ
executors_of w = min w.copies w.size

-- tasks that can be planned: no more than may be, and each reads only earlier ones
pub record ArePlannable (shapes : AllShapes) : Type 0 where
  pub few_tasks : length shapes.tasks ≤ task_limit
  pub earlier : (t : ℕ) → t < length shapes.tasks → All (λ needed. needed < t) (shape_at shapes t).needs

-- ---- what is answered

-- the table is planned for the first so many tasks: it has a row for each of them, which is the earliest, and sheds none
pub record IsPlanned (shapes : AllShapes) (w : Wanted) (count : ℕ) (table : Schedule) : Type 0 where
  pub size : table.size ≡ w.size
  pub period : table.period ≡ w.period
  pub runs : length table.run ≡ count
  pub polls : length table.poll ≡ count
  pub positions : length table.at ≡ count
  pub none_shed : table.shed ≡ []
  pub rows : (t : ℕ) → t < count → IsEarliestRow table (executors_of w) (shape_at shapes t).needs t

-- the table is the plan: it is planned for all tasks
abbrev pub IsPlan : AllShapes → Wanted → Schedule → Type 0
IsPlan shapes w table = IsPlanned shapes w (length shapes.tasks) table

-- there is no room for a task: after the earliest rows of all tasks before it no subframe is open for it
pub record HasNoRoom (shapes : AllShapes) (w : Wanted) (task : ℕ) : Type 0 where
  pub there : task < length shapes.tasks
  pub before : Schedule
  pub planned : IsPlanned shapes w task before
  pub shut : (subframe : ℕ) → ¬ IsOpen before (executors_of w) (shape_at shapes task).needs task subframe
