-- The ideal machine: the words that each frame makes, with no copies, votes, faults or order of steps.
use Rattle.std.specs.Prelude.{◌≡◌, ℕ, zero, suc, ◌+◌, ◌↔◌, List, [], ◌++◌, length, map, Some, if◌then◌else◌, slice_get, slice_index, slice_range}
use Rattle.std.specs.List.{range_with_len}
use Rattle.sift_base.specs.Units.{has}
use Rattle.sift_lang.specs.Tree.{TaskTree}
use Rattle.sift_lang.specs.Meaning.{meaning}
use Rattle.sift_program.specs.Program.{task_at, ProgramTree, output_count, first_word, IsSoundProgram}

-- The words that the first so many tasks make in turn, over those of the frame before, the agreed words of the sensors, and the tasks that are shed.
-- A task that is shed holds its words of the frame before, and the words of another are its meaning.
abbrev pub words_made : List TaskTree → List ℕ → List ℕ → List ℕ → ℕ → List ℕ
words_made tasks prev agreed shed zero = []
words_made tasks prev agreed shed (suc t) =
    let made = words_made tasks prev agreed shed t in
    let task = task_at tasks t in
    made ++ (if has shed t then map (slice_index prev) (range_with_len (first_word tasks t) task.outputs) else meaning task agreed made prev)

-- the words of a frame: those that the program's tasks make in list order
abbrev pub ideal_frame : ProgramTree → List ℕ → List ℕ → List ℕ → List ℕ
ideal_frame program prev agreed shed = words_made program.tasks prev agreed shed (length program.tasks)

-- the words before frame f, where agreed gives each frame's agreed words and shed its shed tasks: the start words, and then those of the frame before
abbrev pub words_before : ProgramTree → (ℕ → List ℕ) → (ℕ → List ℕ) → ℕ → List ℕ
words_before program agreed shed zero = program.starts
words_before program agreed shed (suc f) = ideal_frame program (words_before program agreed shed f) (agreed f) (shed f)

-- the words of frame f
abbrev pub ideal_words : ProgramTree → (ℕ → List ℕ) → (ℕ → List ℕ) → ℕ → List ℕ
ideal_words program agreed shed f = ideal_frame program (words_before program agreed shed f) (agreed f) (shed f)

-- ---- the words of a frame as equations

-- the words of task t among those of a frame
abbrev pub words_of : List TaskTree → ℕ → TaskTree → List ℕ → List ℕ
words_of tasks t task frame = slice_range frame (first_word tasks t) (first_word tasks t + task.outputs)

-- the list has a word for each output, and the words of each task are its meaning over the list itself, or where it is shed those of the frame before
pub record MeetsEachTask (tasks : List TaskTree) (prev agreed shed frame : List ℕ) : Type 0 where
  pub whole : length frame ≡ output_count tasks
  pub each_task : (t : ℕ) (task : TaskTree) → slice_get tasks t ≡ Some task
      → words_of tasks t task frame
      ≡ (if has shed t then map (slice_index prev) (range_with_len (first_word tasks t) task.outputs) else meaning task agreed frame prev)

-- the words of a frame are the one list that meets each task
abbrev pub IdealFrameIsUnique : Type 0
IdealFrameIsUnique =
    (sensors : ℕ) (program : ProgramTree) (prev agreed shed frame : List ℕ) → IsSoundProgram sensors program
    → (frame ≡ ideal_frame program prev agreed shed) ↔ MeetsEachTask program.tasks prev agreed shed frame
