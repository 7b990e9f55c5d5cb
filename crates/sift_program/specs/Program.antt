-- The program as contracts see it, without where it lies in memory, what its tasks read, and when it is sound.
use Rattle.std.specs.Prelude.{ℕ, List, map, suc, ◌≤◌, [], ◌∷◌, Bool, false, ◌||◌, nat_eq, slice_index_or, ◌≡◌, ◌<◌, length, take, Some, slice_get, All, sum_by}
use Rattle.std.specs.List.{filter, list_any, range_with_len}
use Rattle.sift_lang.specs.Tree.{TaskTree, tree_of, Term, this_frame, minus, binary, middle, Statement, bind, assign, output, choose, choose_else, repeat, Block, end, step}
use Rattle.sift_base.specs.Layout.{sensor_limit, word_limit}
use Rattle.sift_base.specs.Shapes.{AllShapes, AreShapes, Shape, task_limit}
use Rattle.sift_lang.specs.Sound.{IsSound, AllNowsBelow}
use Rattle.sift_program.specs.declared.program.Program.{Program}

-- ---- its tasks' trees and its start words

-- the tasks in the order in which they run, and a start word for each output word
pub record ProgramTree : Type 0 where
  pub tasks : List TaskTree
  pub starts : List ℕ

-- the tree that a program is
abbrev pub program_of : Program → ProgramTree
program_of program = record { tasks = map tree_of program.tasks.items; starts = program.starts.items }

-- ---- which programs are sound: each task is, and reads of this frame's words only those of earlier tasks

-- how many output words the tasks have
abbrev pub output_count : List TaskTree → ℕ
output_count tasks = sum_by (λ task. task.outputs) tasks

-- the number of the first output word of task t: so many words have the tasks before it
abbrev pub first_word : List TaskTree → ℕ → ℕ
first_word tasks t = output_count (take t tasks)

-- each word that a task reads by `now` is a word of an earlier task
abbrev pub ReadsEarlierWords : List TaskTree → Type 0
ReadsEarlierWords tasks = (t : ℕ) (task : TaskTree) → slice_get tasks t ≡ Some task → AllNowsBelow (first_word tasks t) task

-- the program is sound for so many sensors
pub record IsSoundProgram (sensors : ℕ) (program : ProgramTree) : Type 0 where
  pub some_task : 0 < length program.tasks
  pub few_tasks : length program.tasks ≤ task_limit
  pub a_start_each : length program.starts ≡ output_count program.tasks
  pub few_words : length program.starts ≤ word_limit
  pub tasks_sound : All (IsSound sensors (length program.starts)) program.tasks
  pub reads_earlier_words : ReadsEarlierWords program.tasks

-- ---- which words a task reads of the frame in which it runs

-- the term reads word w of this frame: it is that word, or one of its parts reads it
abbrev pub term_reads : ℕ → Term → Bool
term_reads w (this_frame v) = nat_eq v w
term_reads w (minus t) = term_reads w t
term_reads w (binary op t u) = term_reads w t || term_reads w u
term_reads w (middle t u v) = term_reads w t || (term_reads w u || term_reads w v)
term_reads w _ = false

abbrev mutual
  -- some term of the statement reads it
  pub statement_reads : ℕ → Statement → Bool
  statement_reads w (bind t) = term_reads w t
  statement_reads w (assign l t) = term_reads w t
  statement_reads w (output j t) = term_reads w t
  statement_reads w (choose t first) = term_reads w t || block_reads w first
  statement_reads w (choose_else t first second) = term_reads w t || (block_reads w first || block_reads w second)
  statement_reads w (repeat k body) = block_reads w body

  -- some term of the block reads it
  pub block_reads : ℕ → Block → Bool
  block_reads w end = false
  block_reads w (step statement rest) = statement_reads w statement || block_reads w rest

-- the task at a place, and one of no words past the list's end
abbrev pub task_at : List TaskTree → ℕ → TaskTree
task_at tasks t = slice_index_or tasks t (record { outputs = 0; body = end })

-- the task reads a word of task e of this frame
abbrev pub reads_task : List TaskTree → TaskTree → ℕ → Bool
reads_task tasks task e = list_any (λ w. block_reads w task.body) (range_with_len (first_word tasks e) (task_at tasks e).outputs)

-- the shapes of the tasks that stand from place t on: the number of a task's outputs, and the earlier tasks that it reads, in ascending order
abbrev pub shapes_from : List TaskTree → ℕ → List TaskTree → List Shape
shapes_from tasks t [] = []
shapes_from tasks t (task ∷ rest) =
    record { outputs = task.outputs; needs = filter (reads_task tasks task) (range_with_len 0 t) } ∷ shapes_from tasks (suc t) rest

-- the shapes of a program's tasks, with so many sensors
abbrev pub program_shapes : ℕ → ProgramTree → AllShapes
program_shapes sensors program = record { sensors = sensors; tasks = shapes_from program.tasks 0 program.tasks }

-- the shapes of a sound program's tasks are shapes that a mission may have
abbrev pub SoundProgramsHaveShapes : Type 0
SoundProgramsHaveShapes = (sensors : ℕ) (program : ProgramTree) → sensors ≤ sensor_limit → IsSoundProgram sensors program
    → AreShapes (program_shapes sensors program)
