-- The code of a task, and of all tasks of a program.
use Rattle.std.specs.Prelude.{◌≡◌, ℕ, List, length, Some, slice_get}
use Rattle.sift_code.specs.Refusal.{Program, limits}
use Rattle.sift_compile.specs.Correct.{Means}
use Rattle.sift_lang.specs.Tree.{TaskTree}

-- the code is a task's: it was verified for so many sensors and voted words and for the task's outputs, and it means the task
pub record IsCodeOf (sensors words : ℕ) (task : TaskTree) (code : Program) : Type 0 where
  pub limits_are : code.limits ≡ limits sensors words task.outputs
  pub means : Means code task

-- entry t is the code of task t
pub record AreCodesOf (sensors words : ℕ) (tasks : List TaskTree) (codes : List Program) : Type 0 where
  pub as_many : length codes ≡ length tasks
  pub each : (t : ℕ) (task : TaskTree) (code : Program) → slice_get tasks t ≡ Some task → slice_get codes t ≡ Some code → IsCodeOf sensors words task code
