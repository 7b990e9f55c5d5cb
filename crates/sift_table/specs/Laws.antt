-- What holds of every table that meets the rules.
use Rattle.std.specs.Prelude.{◌≡◌, ◌≢◌, ◌⊎◌, ℕ, ◌+◌, ◌*◌, ◌<◌, ◌≤◌, true, false, length, count_by}
use Rattle.std.specs.List.{Contains, range_with_len}
use Rattle.sift_base.specs.Layout.{IsSlot}
use Rattle.sift_base.specs.Shapes.{AllShapes, AreShapes, first_word, shape_at, words_in}
use Rattle.sift_base.specs.declared.slots.Layout.{Layout}
use Rattle.sift_base.specs.declared.slots.Slot.{Slot}
use Rattle.sift_base.specs.Units.{has}
use Rattle.sift_table.specs.Rules.{IsFirstBroken, IsGood, least_executors, report_lead}
use Rattle.sift_table.specs.Schedule.{Schedule, agreed_in, hearing_delay, plain_of, polled_in, run_in, shortest_period, positions_of}
use Rattle.sift_table.specs.Timing.{due_in, end_lead, heard_in, is_shed, task_of}

-- the word of each slot is heard two subframes before the frame's end, or earlier, and two after it is said, or later, where no task is shed
abbrev pub SlotsAreHeardInTime : Type 0
SlotsAreHeardInTime =
    (table : Schedule) (shapes : AllShapes) (layout : Layout) (slot : Slot) → IsGood table shapes → shortest_period ≤ table.period
    → layout.words ≡ words_in shapes.tasks → IsSlot layout slot
    → (is_shed table shapes slot ≡ false → due_in table shapes slot + hearing_delay ≤ heard_in table shapes slot) × (heard_in table shapes slot + end_lead ≤ table.period)

-- a task that isn't shed runs when the sensor words are agreed, or later, and when what it reads of this frame is polled, or later
abbrev pub TasksRunAfterTheirNeeds : Type 0
TasksRunAfterTheirNeeds =
    (table : Schedule) (shapes : AllShapes) (t : ℕ) → IsGood table shapes → t < length shapes.tasks → has table.shed t ≡ false
    → (agreed_in ≤ run_in table t) × ((needed : ℕ) → Contains (shape_at shapes t).needs needed → polled_in table needed ≤ run_in table t)

-- each task that isn't shed runs at three or more of a configuration's positions, one that is shed at none, and none at any others
abbrev pub TasksHaveThreeExecutors : Type 0
TasksHaveThreeExecutors =
    (table : Schedule) (shapes : AllShapes) (t : ℕ) → IsGood table shapes → t < length shapes.tasks
    → (has table.shed t ≡ false → least_executors ≤ count_by (has (positions_of table t)) (range_with_len 0 table.size))
    × ((position : ℕ) → has (positions_of table t) position ≡ true → (has table.shed t ≡ false) × (position < table.size))

-- at no position two tasks run in one subframe
abbrev pub PositionsRunOneTaskAtATime : Type 0
PositionsRunOneTaskAtATime =
    (table : Schedule) (shapes : AllShapes) (t other position : ℕ) → IsGood table shapes → t < length shapes.tasks → other < length shapes.tasks
    → t ≢ other → run_in table t ≡ run_in table other → has (positions_of table t) position ≡ true → has (positions_of table other) position ≡ false

-- word j of task t is put out by task t, and each word is put out by a task
abbrev pub WordsHaveTheirTask : Type 0
WordsHaveTheirTask =
    (shapes : AllShapes) → ((t j : ℕ) → t < length shapes.tasks → j < (shape_at shapes t).outputs → task_of shapes.tasks (first_word shapes t + j) ≡ t)
    × ((w : ℕ) → w < words_in shapes.tasks → task_of shapes.tasks w < length shapes.tasks)

-- the plain table is good where the last task is polled by the reports
abbrev pub PlainTablesAreGood : Type 0
PlainTablesAreGood =
    (size period : ℕ) (shapes : AllShapes) → least_executors ≤ size → AreShapes shapes
    → agreed_in + hearing_delay * length shapes.tasks + report_lead ≤ period → IsGood (plain_of size period (length shapes.tasks)) shapes

-- a task that is shed has no subframes of its own
abbrev pub ShedTasksAreLeftOut : Type 0
ShedTasksAreLeftOut =
    (table : Schedule) (shapes : AllShapes) (t : ℕ) → IsGood table shapes → has table.shed t ≡ true
    → (t < length shapes.tasks) × (run_in table t ≡ 0) × (polled_in table t ≡ 0)

-- a table that breaks a rule has one first broken rule, in one row, and one that meets all rules has none
abbrev pub OneBrokenRule : Type 0
OneBrokenRule =
    (table : Schedule) (shapes : AllShapes) (number row : ℕ) → IsFirstBroken table shapes number row
    → (¬ IsGood table shapes) × ((other at : ℕ) → IsFirstBroken table shapes other at → (other ≡ number) × (at ≡ row))

-- each table meets all rules for given tasks, or one is the first that it breaks, in a first row
abbrev pub TablesAreAnswered : Type 0
TablesAreAnswered = (table : Schedule) (shapes : AllShapes) → IsGood table shapes ⊎ ((number : ℕ) × (row : ℕ) × IsFirstBroken table shapes number row)
