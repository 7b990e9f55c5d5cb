-- The program that the tasks of a document state.
use Rattle.std.specs.Prelude.{ℕ, ◌≡◌, ◌≤◌, ◌-◌, List, [], sum_by, slice_get, take, Some, unwrap_or}
use Rattle.std.specs.List.{flat_map}
use Rattle.toml.specs.Data.{Members}
use Rattle.sift_compile.specs.Length.{code_limit, task_length, task_steps}
use Rattle.sift_lang.specs.Tree.{TaskTree}
use Rattle.sift_parse.specs.Outcome.{IsTaskOf, linear_tree}
use Rattle.sift_parse.specs.Roll.{first_word, Roll}
use Rattle.sift_program.specs.Program.{ProgramTree}
use Rattle.sift_document.specs.Rules.{AreMatched}
use Rattle.sift_scenario.specs.Task.{AreForms, Form, linear, text, counts_of, names_of, start_words}

-- ---- trees

-- the names that the texts of these tasks may use, beside sensors of these names; it is the first task's turn
abbrev pub roll_for : (sensors : List (List ℕ)) → List Members → Roll
roll_for sensors tasks = record { sensors = sensors; tasks = names_of tasks; sizes = counts_of tasks; this = 0 }

-- the same, where it is this task's turn
abbrev pub turn_of : ℕ → Roll → Roll
turn_of task roll = record roll { this = task }

-- the tree of a task of this form, where it is its turn
abbrev pub IsTreeOf : Roll → Form → TaskTree → Type 0
IsTreeOf roll (linear factor addend) tree = tree ≡ linear_tree (first_word roll roll.this) factor addend
IsTreeOf roll (text bytes) tree = IsTaskOf roll bytes tree

-- ---- length and steps

-- the most steps that the tasks of a mission may take in a frame, all together
abbrev pub step_limit : ℕ
step_limit = 16384

-- the steps that are left after these tasks, where each takes the most that it may
abbrev pub steps_left : List TaskTree → ℕ
steps_left trees = step_limit - sum_by task_steps trees

-- the code of each task is short enough, and takes no more steps than those before it leave
abbrev pub AreAllowed : List TaskTree → Type 0
AreAllowed trees =
    (t : ℕ) (tree : TaskTree) → slice_get trees t ≡ Some tree → (task_length tree ≤ code_limit) × (task_steps tree ≤ steps_left (take t trees))

-- ---- the program

-- the program of the tasks in these tables, beside sensors of these names
pub record IsProgramOf (sensors : List (List ℕ)) (tasks : List Members) (program : ProgramTree) : Type 0 where
  pub starts : program.starts ≡ flat_map (λ task. unwrap_or (start_words task) []) tasks
  pub forms : List Form
  pub stated : AreForms tasks forms
  pub trees : AreMatched (λ task form tree. IsTreeOf (turn_of task (roll_for sensors tasks)) form tree) forms program.tasks
  pub allowed : AreAllowed program.tasks
