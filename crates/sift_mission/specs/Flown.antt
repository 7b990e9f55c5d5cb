-- The mission as flights see it, from its data.
use Rattle.std.specs.Prelude.{ℕ, suc, ◌-◌, ◌%◌, List, [], ◌∷◌, length, slice_index, slice_index_or, Bool, ◌&&◌, nat_eq, if◌then◌else◌, option_map, ℤ, pos}
use Rattle.sift_base.specs.Layout.{least_units, slot_count, slot_kind, slot_number}
use Rattle.sift_base.specs.Shapes.{shape_at}
use Rattle.sift_base.specs.Units.{has}
use Rattle.sift_config.specs.Config.{first_units}
use Rattle.sift_lang.specs.Meaning.{meaning}
use Rattle.sift_script.specs.Faults as faults
use Rattle.sift_table.specs.Schedule as schedule
use Rattle.sift_table.specs.Schedule.{Schedule, positions_of}
use Rattle.sift_table.specs.Timing as timing
use Rattle.sift_table.specs.Timing.{task_of}
use Rattle.sift_mission.specs.Data.{MissionData, shapes_in, FlownMission}
use Rattle.sift_program.specs.Program.{first_word, task_at}
use Rattle.sift_mission.specs.PartsFit.{table_at}

-- ---- tables

-- the table of a configuration's size
abbrev pub table_for : MissionData → List ℕ → Schedule
table_for d us = table_at d (length us - least_units)

-- the position of a unit in a configuration, and the count of its units where it isn't there
abbrev pub position_in : List ℕ → ℕ → ℕ
position_in [] u = 0
position_in (v ∷ us) u = if nat_eq v u then 0 else suc (position_in us u)

-- a unit of the configuration runs a task: the table has the task at its position
abbrev pub runs_in : MissionData → List ℕ → ℕ → ℕ → Bool
runs_in d us t u = has us u && has (positions_of (table_for d us) t) (position_in us u)

-- ---- words

-- the word that its task makes: the meaning of the task, at the word's place among those of the task
abbrev pub word_made : MissionData → ℕ → List ℕ → List ℕ → List ℕ → ℕ
word_made d w ins now last =
    let t = task_of (shapes_in d).tasks w in
    slice_index (meaning (task_at d.program.tasks t) ins now last) (w - first_word d.program.tasks t)

-- the word of a sensor in a frame: its words come round and round
abbrev pub word_sensed : MissionData → ℕ → ℕ → ℕ
word_sensed d x f =
    let words = slice_index_or d.sensors x [] in
    slice_index words (f % length words)

-- ---- clocks

-- the ticks of a unit, and 0 past the list's end
abbrev pub ticks_of : List ℤ → ℕ → ℤ
ticks_of ticks u = slice_index_or ticks u (pos 0)

-- ---- the mission

-- the mission that is flown
abbrev pub flown : MissionData → FlownMission
flown d = record {
  units = first_units d.units;
  frames = d.frames;
  period = d.period;
  sensors = d.layout.sensors;
  words = d.layout.words;
  tasks = length d.program.tasks;
  slots = slot_count d.layout;
  number = slot_number d.layout;
  kind = slot_kind d.layout;
  due = λ us k. timing.due_in (table_for d us) (shapes_in d) k;
  heard_in = λ us k. timing.heard_in (table_for d us) (shapes_in d) k;
  task = task_of (shapes_in d).tasks;
  run_in = λ us t. schedule.run_in (table_for d us) t;
  executes = λ us w. runs_in d us (task_of (shapes_in d).tasks w);
  shed = λ us. (table_for d us).shed;
  -- a task reads all words of each task that it reads a word of
  needs = λ w v. has (shape_at (shapes_in d) (task_of (shapes_in d).tasks w)).needs (task_of (shapes_in d).tasks v);
  word = word_made d;
  starts = d.program.starts;
  sensed = word_sensed d;
  works = faults.works d.script.faults;
  override = faults.override_of d.script;
  storm = λ u. option_map (λ storm. storm.from) (faults.storm_of d.script.faults u);
  skew = d.clock.skew;
  error = d.clock.error;
  rate = d.clock.rate;
  length = d.clock.length;
  offset = ticks_of d.clock.start;
  drift = ticks_of d.clock.drift;
  errors = λ u. ticks_of (slice_index_or d.clock.errors u []);
}
