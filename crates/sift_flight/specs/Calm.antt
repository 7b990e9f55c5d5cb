-- Small missions of one frame in which nothing goes wrong: by them the premises of the laws are seen to be met.
use Rattle.std.specs.Prelude.{ℕ, ◌+◌, ◌-◌, List, [], ◌∷◌, length, get_or, slice_index, Bool, true, ◌&&◌, nat_lt, if◌then◌else◌, None, Some, pos, not}
use Rattle.sift_base.specs.Layout.{slot_number, slot_count}
use Rattle.sift_base.specs.declared.slots.Layout.{Layout}
use Rattle.sift_base.specs.declared.slots.Slot.{Slot}
use Rattle.sift_base.specs.declared.slots.Slot.TheVariants.{Clock, Sense, RelaySense, Out, Report, RelayReport}
use Rattle.sift_lang.specs.Tree.{TaskTree, end}
use Rattle.sift_lang.specs.Meaning.{meaning}
use Rattle.sift_program.specs.Program.{ProgramTree}
use Rattle.sift_mission.specs.Data.{FlownMission}

-- a calm mission: the length of its frame; its sensors' words; its tasks, each with one word, with the subframes in which they run, the
-- words of this frame that they need, and their words before the frame and in it; the slot of each number; and which units turn after the frame
pub record Calm : Type 0 where
  pub period : ℕ
  pub sensed : List ℕ
  pub tasks : List TaskTree
  pub runs : List ℕ
  pub needs : ℕ → ℕ → Bool
  pub starts : List ℕ
  pub outs : List ℕ
  pub kind : ℕ → Slot
  pub turns : ℕ → Bool

-- four units fly it
abbrev pub four_units : List ℕ
four_units = 0 ∷ 1 ∷ 2 ∷ 3 ∷ []

-- its layout of slots
abbrev pub layout_of : Calm → Layout
layout_of c = record { units = 4; sensors = length c.sensed; words = length c.tasks }

-- in which subframes a slot is said, and heard: a task's word two subframes after the task runs
abbrev pub due_in : Calm → Slot → ℕ
due_in c Clock = 0
due_in c (Sense x) = 0
due_in c (RelaySense x) = 2
due_in c (Out w) = slice_index c.runs w
due_in c Report = c.period - 6
due_in c (RelayReport s) = c.period - 4

-- and heard
abbrev pub heard_in : Calm → Slot → ℕ
heard_in c Clock = 2
heard_in c (Sense x) = 2
heard_in c (RelaySense x) = 4
heard_in c (Out w) = slice_index c.runs w + 2
heard_in c Report = c.period - 4
heard_in c (RelayReport s) = c.period - 2

-- the task of a word
abbrev pub task_at : Calm → ℕ → TaskTree
task_at c w = get_or c.tasks w (record { outputs = 1; body = end })

-- the mission: each unit runs each task, no fault comes in the frame, and all clocks are right
abbrev pub mission_of : Calm → FlownMission
mission_of c = record {
  units = four_units;
  frames = 1;
  period = c.period;
  sensors = length c.sensed;
  words = length c.tasks;
  tasks = length c.tasks;
  slots = slot_count (layout_of c);
  number = slot_number (layout_of c);
  kind = c.kind;
  due = λ us k. due_in c k;
  heard_in = λ us k. heard_in c k;
  task = λ w. w;
  run_in = λ us t. slice_index c.runs t;
  executes = λ us w u. true;
  shed = λ us. [];
  needs = c.needs;
  word = λ w ins now last. slice_index (meaning (task_at c w) ins now last) 0;
  starts = c.starts;
  sensed = λ x f. slice_index c.sensed x;
  works = λ u f. not (nat_lt 0 f && c.turns u);
  override = λ u f k q. None;
  storm = λ u. if c.turns u then Some 1 else None;
  skew = pos 0;
  error = pos 0;
  rate = pos 0;
  length = pos 1;
  offset = λ u. pos 0;
  drift = λ u. pos 0;
  errors = λ q p. pos 0;
}

-- the program that it runs
abbrev pub program_of : Calm → ProgramTree
program_of c = record { tasks = c.tasks; starts = c.starts }
