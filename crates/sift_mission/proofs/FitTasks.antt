-- The tasks of a mission whose parts fit: what they read, and how many there are.
use Rattle.std.proofs.Common.{◌≡◌, ℕ, Bool, ◌-◌, ◌<◌, ◌≤◌, List, [], ◌∷◌, length, take, true, slice_index, refl, sym, ap, ◌∙◌, arith, zero-add, ◌+◌}
use Rattle.std.proofs.lemmas.List.Elements.{All-tail}
use Rattle.std.proofs.lemmas.List.Sums.{sum_by-cons, sum_by-take-le}
use Rattle.std.proofs.lemmas.Option.{get_or_from_slice_get, slice_get-get_or, slice_get_within}
use Rattle.std.specs.List.{All, filter, range_with_len}
use Rattle.sift_base.specs.Units.{has}
use Rattle.sift_base.specs.Shapes.{Shape, first_word, shape_at, words_in}
use Rattle.sift_base.specs.laws.Ranges.{has-range, range-has}
use Rattle.sift_base.specs.laws.Counts.{in_filtered}
use Rattle.sift_lang.specs.Sound.{AllNowsBelow, IsSound}
use Rattle.sift_lang.specs.Tree.{TaskTree, end}
use Rattle.sift_table.specs.Laws.{TasksRunAfterTheirNeeds, WordsHaveTheirTask}
use Rattle.sift_table.specs.Timing.{task_of}
use Rattle.sift_program.specs.Program as program
use Rattle.sift_program.specs.Program.{output_count, reads_task, task_at}
use Rattle.sift_program.specs.laws.ShapeLists.{shape_in, length-shapes, shape-there, take-shapes, words-shapes, reads_word}
use Rattle.sift_mission.specs.Data.{MissionData, shapes_in}
use Rattle.sift_mission.specs.Fits.{IsRead, IsCounted, SameAt}
use Rattle.sift_mission.specs.Flown.{flown, table_for, word_made}
use Rattle.sift_mission.specs.PartsFit.{PartsFit}
use Rattle.sift_mission.specs.Premises.{IsAmong, RunsProgram}
use Rattle.sift_mission.proofs.FitSlots.{few-words}
use Rattle.sift_mission.proofs.FitTables.{table-is, task-below, words-are}
use Rattle.sift_mission.proofs.Meanings.{SameRead, meaning-same}
use Rattle.sift_mission.proofs.Tasks.{among-before, among-earlier, among-own, any-has, contains-has, has-filter}

-- sound tasks have a word each, or more
tasks-words : (sensors words : ℕ) (tasks : List TaskTree) → All (IsSound sensors words) tasks → length tasks ≤ output_count tasks
tasks-words sensors words [] sound = omega arith
tasks-words sensors words (task ∷ tasks) sound =
    let first : 0 < task.outputs = (sound 0 task (omega arith)).some_output in
    let rest = tasks-words sensors words tasks (All-tail (IsSound sensors words) task tasks sound) in
    omega (arith, sum_by-cons (λ (t : TaskTree). t.outputs) task tasks)

module _ (d : MissionData) (fit : PartsFit d) where
  -- the task of one word reads the words of the task of the other
  abbrev needs_word : ℕ → ℕ → Bool
  needs_word w v = (flown d).needs w v

  -- the task that puts out a word
  abbrev task_for : ℕ → TaskTree
  task_for w = task_at d.program.tasks (task_of (shapes_in d).tasks w)

  -- a word's task is there
  pub task-there : (w : ℕ) → w < d.layout.words → task_of (shapes_in d).tasks w < length d.program.tasks
  task-there w low = let many = length-shapes d.program.tasks 0 d.program.tasks in let below = task-below d fit w low in omega arith

  -- the shape of a task that is there
  pub shape-is : (t : ℕ) → t < length d.program.tasks → shape_at (shapes_in d) t ≡ shape_in d.program.tasks t (task_at d.program.tasks t)
  shape-is t low = shape-there d.program.tasks t 0 d.program.tasks _ low ∙ ap (λ n. shape_in d.program.tasks n (task_at d.program.tasks t)) (zero-add t)

  -- the tasks' words are numbered as their shapes' are
  pub first-word-is : (t : ℕ) → first_word (shapes_in d) t ≡ program.first_word d.program.tasks t
  first-word-is t = ap words_in (take-shapes d.program.tasks t 0 d.program.tasks) ∙ words-shapes d.program.tasks 0 (take t d.program.tasks)

  -- the tasks that a word's task needs are the earlier ones that it reads
  needs-are : (w v : ℕ) → w < d.layout.words
      → needs_word w v ≡ has (filter (reads_task d.program.tasks (task_for w)) (range_with_len 0 (task_of (shapes_in d).tasks w))) (task_of (shapes_in d).tasks v)
  needs-are w v low = ap (λ (shape : Shape). has shape.needs (task_of (shapes_in d).tasks v)) (shape-is (task_of (shapes_in d).tasks w) (task-there w low))

  -- a word is one of those of its task
  word-own : (v : ℕ) → v < d.layout.words
      → has (range_with_len (program.first_word d.program.tasks (task_of (shapes_in d).tasks v)) (task_for v).outputs) v ≡ true
  word-own v low =
      let e = task_of (shapes_in d).tasks v in
      let words = words-are d fit in
      let own = among-own (record { outputs = 0; needs = [] }) (shapes_in d).tasks v (omega arith) in
      let first = first-word-is e in
      let size : (shape_at (shapes_in d) e).outputs ≡ (task_for v).outputs = ap (λ (shape : Shape). shape.outputs) (shape-is e (task-there v low)) in
      has-range (program.first_word d.program.tasks e) (task_for v).outputs v (omega (arith, own.0)) (omega (arith, own.1))

  -- a task needs the task of each earlier word of this frame that it reads
  reads-needs : (w v : ℕ) → w < d.layout.words → v < program.first_word d.program.tasks (task_of (shapes_in d).tasks w) → reads_word (task_for w) v ≡ true
      → (v < d.layout.words) × (needs_word w v ≡ true)
  reads-needs w v low before reads =
      let t = task_of (shapes_in d).tasks w in
      let e = task_of (shapes_in d).tasks v in
      let first = first-word-is t in
      let words = words-are d fit in
      let within : v < d.layout.words = omega (arith, sum_by-take-le (λ (shape : Shape). shape.outputs) (shapes_in d).tasks t) in
      let earlier : e < t = among-before (shapes_in d).tasks t v (omega arith) in
      let read : reads_task d.program.tasks (task_for w) e ≡ true = any-has (reads_word (task_for w)) _ v (word-own v within) reads in
      let kept = in_filtered (reads_task d.program.tasks (task_for w)) (range_with_len 0 t) e (has-range 0 t e (omega arith) (omega arith)) read in
      (within, needs-are w v low ∙ kept)

  -- a word that a task needs is one of an earlier task
  needs-earlier : (w v : ℕ) → w < d.layout.words → needs_word w v ≡ true → task_of (shapes_in d).tasks v < task_of (shapes_in d).tasks w
  needs-earlier w v low needs =
      let t = task_of (shapes_in d).tasks w in
      let kept = has-filter (reads_task d.program.tasks (task_for w)) (range_with_len 0 t) (task_of (shapes_in d).tasks v) (sym (needs-are w v low) ∙ needs) in
      let range = range-has 0 t (task_of (shapes_in d).tasks v) kept.0 in
      omega (arith, range.1)

  -- what a word's task makes of lists that are the same where it reads is one word
  reads-same : (w : ℕ) (ins ins' now now' last : List ℕ) → w < d.layout.words → SameAt (λ x. true) d.layout.sensors ins ins' → SameAt (needs_word w) d.layout.words now now'
      → word_made d w ins now last ≡ word_made d w ins' now' last
  reads-same w ins ins' now now' last low sensed same =
      let t = task_of (shapes_in d).tasks w in
      let there = task-there w low in
      let none : TaskTree = record { outputs = 0; body = end } in
      let sound = fit.program.tasks_sound t none there in
      let nows : AllNowsBelow (program.first_word d.program.tasks t) (task_for w) = fit.program.reads_earlier_words t (task_for w) (slice_get-get_or d.program.tasks t none there) in
      let read : SameRead (reads_word (task_for w)) (program.first_word d.program.tasks t) now now' =
      λ v before reads. (let needed = reads-needs w v low before reads in same v needed.0 needed.1) in
      ap (λ outs. slice_index outs (w - program.first_word d.program.tasks t))
      (meaning-same d.layout.sensors (length d.program.starts) (program.first_word d.program.tasks t) (task_for w) ins ins' now now' last sound nows (λ x x_low. sensed x x_low refl) read)

  -- a task reads the agreed words, this frame's words that it needs, heard by then, and those of the frame before
  pub read : TasksRunAfterTheirNeeds → IsRead (flown d)
  read after = record {
    reads = reads-same;
    earlier = λ w v low v_low needs. among-earlier (shapes_in d).tasks v w (needs-earlier w v low needs);
    polled = λ us w v config low v_low kept needs. (
        let t = task_of (shapes_in d).tasks w in
        (after (table_for d us) (shapes_in d) t (table-is d fit us config).good (task-below d fit w low) kept).1 (task_of (shapes_in d).tasks v)
        (contains-has (shape_at (shapes_in d) t).needs (task_of (shapes_in d).tasks v) needs));
  }

  -- in a mission whose parts fit units, tasks, words, sensors and frames are counted within the limits
  pub counted : IsCounted (flown d)
  counted = record {
    units = λ u there. (let low = range-has 0 d.units u there in let few = fit.limits.few_units in omega (arith, low.1));
    task = task-there;
    tasks = (let words = fit.layout.words in omega (arith, tasks-words d.layout.sensors (length d.program.starts) d.program.tasks fit.program.tasks_sound));
    words = omega arith;
    few_words = few-words d fit;
    sensors = (let sensors = fit.layout.sensors in let few = fit.limits.few_sensors in omega arith);
    period = fit.limits.long;
    short = fit.limits.short;
    frames = fit.limits.few_frames;
    starts = (let words = fit.layout.words in let starts = fit.program.a_start_each in omega arith);
  }

  -- word i of task t is one of task t
  pub task-of-word : WordsHaveTheirTask → (t i : ℕ) → t < length d.program.tasks → i < (task_at d.program.tasks t).outputs
      → task_of (shapes_in d).tasks (program.first_word d.program.tasks t + i) ≡ t
  task-of-word theirs t i low own =
      let many = length-shapes d.program.tasks 0 d.program.tasks in
      let size : (shape_at (shapes_in d) t).outputs ≡ (task_at d.program.tasks t).outputs = ap (λ (shape : Shape). shape.outputs) (shape-is t low) in
      rw (← first-word-is t) ((theirs (shapes_in d)).0 t i (omega arith) (omega arith))

  -- a word is one of those of its task
  among : (w : ℕ) → w < d.layout.words → IsAmong d.program (task_of (shapes_in d).tasks w) w
  among w low =
      let t = task_of (shapes_in d).tasks w in
      let there = task-there w low in
      let words = words-are d fit in
      let own = among-own (record { outputs = 0; needs = [] }) (shapes_in d).tasks w (omega arith) in
      let first = first-word-is t in
      let size : (shape_at (shapes_in d) t).outputs ≡ (task_for w).outputs = ap (λ (shape : Shape). shape.outputs) (shape-is t there) in
      record {
        task = task_for w;
        at = slice_get-get_or d.program.tasks t (record { outputs = 0; body = end }) there;
        from = omega (arith, own.0);
        below = omega (arith, own.1);
      }

  -- the mission's words are those of its program
  pub program-is : WordsHaveTheirTask → RunsProgram (flown d) d.program
  program-is theirs = record {
    sound = fit.program;
    words = fit.layout.words;
    starts = refl;
    each = among;
    task = λ t w own. (
        let same : task_at d.program.tasks t ≡ own.task = get_or_from_slice_get d.program.tasks t own.task (record { outputs = 0; body = end }) own.at in
        let first = program.first_word d.program.tasks t in
        let place : first + (w - first) ≡ w = omega (arith, own.from) in
        rw place at (task-of-word theirs t (w - first) (slice_get_within d.program.tasks t own.task own.at) (rw same (omega (arith, own.from, own.below)))));
    word = λ t i task ins now last there own. (
        let low = slice_get_within d.program.tasks t task there in
        let same : task_at d.program.tasks t ≡ task = get_or_from_slice_get d.program.tasks t task (record { outputs = 0; body = end }) there in
        let place = task-of-word theirs t i low (rw same own) in
        let first : program.first_word d.program.tasks t + i - program.first_word d.program.tasks t ≡ i = omega arith in
        rw (place, same, first) refl);
  }
