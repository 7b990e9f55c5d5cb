-- In which subframes a slot's word is said and heard, under a table.
use Rattle.std.specs.Prelude.{ℕ, suc, ◌-◌, List, [], ◌∷◌, Bool, false, nat_lt, if◌then◌else◌}
use Rattle.sift_base.specs.Shapes.{AllShapes, Shape}
use Rattle.sift_base.specs.declared.slots.Slot.{Slot}
use Rattle.sift_base.specs.declared.slots.Slot.TheVariants.{Clock, Sense, RelaySense, Out, Report, RelayReport}
use Rattle.sift_base.specs.Units.{has}
use Rattle.sift_table.specs.Rules.{report_lead}
use Rattle.sift_table.specs.Schedule.{Schedule, agreed_in, hearing_delay, polled_in, run_in}

-- the task among these that puts out word w of all their words: each task's words follow those of the task before it
abbrev pub task_of : List Shape → ℕ → ℕ
task_of [] w = 0
task_of (task ∷ rest) w = if nat_lt w task.outputs then 0 else suc (task_of rest (w - task.outputs))

-- the word of the slot is one of a task that the table sheds: nothing is said or heard there
abbrev pub is_shed : Schedule → AllShapes → Slot → Bool
is_shed table shapes Clock = false
is_shed table shapes (Sense x) = false
is_shed table shapes (RelaySense x) = false
is_shed table shapes (Out w) = has table.shed (task_of shapes.tasks w)
is_shed table shapes Report = false
is_shed table shapes (RelayReport u) = false

-- so many subframes before a frame's end the reports are heard, and said again by those who heard them
abbrev pub relay_lead : ℕ
relay_lead = 4

-- so many subframes before a frame's end the last words of the frame are heard
abbrev pub end_lead : ℕ
end_lead = 2

-- the subframe of a frame in which the word of a slot is said: 0 for the clock, for a sensor, and for a task that is shed
abbrev pub due_in : Schedule → AllShapes → Slot → ℕ
due_in table shapes (RelaySense x) = hearing_delay
due_in table shapes (Out w) = run_in table (task_of shapes.tasks w)
due_in table shapes Report = table.period - report_lead
due_in table shapes (RelayReport u) = table.period - relay_lead
due_in table shapes _ = 0

-- the subframe of a frame in which the word of a slot is heard: the clock and a sensor once they can be, and 0 for a task that is shed
abbrev pub heard_in : Schedule → AllShapes → Slot → ℕ
heard_in table shapes (RelaySense x) = agreed_in
heard_in table shapes (Out w) = polled_in table (task_of shapes.tasks w)
heard_in table shapes Report = table.period - relay_lead
heard_in table shapes (RelayReport u) = table.period - end_lead
heard_in table shapes _ = hearing_delay
