-- The rules of a schedule table, one predicate a rule, and the first rule that a table breaks.
use Rattle.std.specs.Prelude.{◌≡◌, ℕ, ◌+◌, ◌<◌, ◌≤◌, ◌⊎◌, List, [], ◌∷◌, length, Bool, true, false}
use Rattle.std.specs.List.{All}
use Rattle.sift_base.specs.Requirement.{Requirement, AreMet, IsFirstRefused, IsFirstUnmet}
use Rattle.sift_base.specs.Shapes.{AllShapes, shape_at}
use Rattle.sift_base.specs.Units.{has, IsAscending}
use Rattle.sift_table.specs.Schedule.{Schedule, agreed_in, hearing_delay, polled_in, positions_of, run_in}

-- so many subframes before the frame's end the reports are said
abbrev pub report_lead : ℕ
report_lead = 6

-- the fewest units that run a task: with one of them faulty, the others are a majority
abbrev pub least_executors : ℕ
least_executors = 3

-- ---- one predicate a rule

-- `run`, `poll` and `at` have one entry for each task
abbrev pub HasAnEntryEach : Schedule → AllShapes → Type 0
HasAnEntryEach table shapes = (length table.run ≡ length shapes.tasks) × (length table.poll ≡ length shapes.tasks) × (length table.at ≡ length shapes.tasks)

-- the numbers of the tasks that are shed ascend strictly, and each is that of a task
abbrev pub ShedsTasks : Schedule → AllShapes → Type 0
ShedsTasks table shapes = IsAscending table.shed × All (λ t. t < length shapes.tasks) table.shed

-- the task runs when the sensor words are agreed, or later
abbrev pub RunsAfterAgreement : Schedule → ℕ → Type 0
RunsAfterAgreement table t = agreed_in ≤ run_in table t

-- the task is polled when the reports are said, or earlier
abbrev pub IsPolledByReports : Schedule → ℕ → Type 0
IsPolledByReports table t = polled_in table t + report_lead ≤ table.period

-- the task is polled when what its run says can be heard, or later
abbrev pub IsPolledAfterRun : Schedule → ℕ → Type 0
IsPolledAfterRun table t = run_in table t + hearing_delay ≤ polled_in table t

-- the task has at least three positions
abbrev pub HasEnoughPositions : Schedule → ℕ → Type 0
HasEnoughPositions table t = least_executors ≤ length (positions_of table t)

-- each position of the task is below the size
abbrev pub HasPositionsInside : Schedule → ℕ → Type 0
HasPositionsInside table t = All (λ position. position < table.size) (positions_of table t)

-- the positions of the task ascend strictly
abbrev pub HasAscendingPositions : Schedule → ℕ → Type 0
HasAscendingPositions table t = IsAscending (positions_of table t)

-- each task that isn't shed and whose words of this frame the task reads is polled when the task runs, or earlier
abbrev pub ReadsPolledWords : Schedule → AllShapes → ℕ → Type 0
ReadsPolledWords table shapes t = All (λ needed. has table.shed needed ≡ false → polled_in table needed ≤ run_in table t) (shape_at shapes t).needs

-- no position is in both lists
abbrev pub AreApart : List ℕ → List ℕ → Type 0
AreApart some others = (position : ℕ) → has some position ≡ true → has others position ≡ false

-- no earlier task that isn't shed runs in the same subframe at a position of the task
abbrev pub SharesNoPosition : Schedule → ℕ → Type 0
SharesNoPosition table t =
    (earlier : ℕ) → earlier < t → has table.shed earlier ≡ false → run_in table earlier ≡ run_in table t
    → AreApart (positions_of table earlier) (positions_of table t)

-- a task that is shed has no run, no poll and no position: 0 stands for no subframe
abbrev pub IsLeftOut : Schedule → ℕ → Type 0
IsLeftOut table t = (run_in table t ≡ 0) × (polled_in table t ≡ 0) × (positions_of table t ≡ [])

-- ---- all of them

-- the rules for the whole table, with their numbers, in the order in which they are tested, before those of its rows
abbrev pub table_rules : Schedule → AllShapes → List Requirement
table_rules table shapes = (1, HasAnEntryEach table shapes) ∷ (10, ShedsTasks table shapes) ∷ []

-- the rules of task t's row, in their order: of one that is shed, and of one that runs
abbrev pub rules_where : (is_shed : Bool) → Schedule → AllShapes → (t : ℕ) → List Requirement
rules_where true table shapes t = (11, IsLeftOut table t) ∷ []
rules_where false table shapes t =
    (2, RunsAfterAgreement table t) ∷ (3, IsPolledByReports table t) ∷ (4, IsPolledAfterRun table t) ∷ (5, HasEnoughPositions table t)
    ∷ (6, HasPositionsInside table t) ∷ (7, HasAscendingPositions table t) ∷ (8, ReadsPolledWords table shapes t) ∷ (9, SharesNoPosition table t) ∷ []

-- the rules that are then tested row by row
abbrev pub row_rules : Schedule → AllShapes → (t : ℕ) → List Requirement
row_rules table shapes t = rules_where (has table.shed t) table shapes t

-- the table meets all rules, in each row
pub record IsGood (table : Schedule) (shapes : AllShapes) : Type 0 where
  pub whole : AreMet (table_rules table shapes)
  pub rows : (t : ℕ) → t < length shapes.tasks → AreMet (row_rules table shapes t)

-- this is the number of the first rule that the table breaks, and the first row in which it does: row 0 for a rule of the whole table
abbrev pub IsFirstBroken : Schedule → AllShapes → (number row : ℕ) → Type 0
IsFirstBroken table shapes number row =
    (IsFirstUnmet (table_rules table shapes) number × (row ≡ 0))
    ⊎ (AreMet (table_rules table shapes) × IsFirstRefused (length shapes.tasks) (row_rules table shapes) number row)

-- the table was checked for some tasks' shapes, and meets all rules for them
pub record IsChecked (table : Schedule) : Type 0 where
  pub shapes : AllShapes
  pub good : IsGood table shapes
