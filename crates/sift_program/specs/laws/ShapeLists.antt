-- The shapes of a program's tasks, one for each.
use Rattle.std.proofs.Common.{◌≡◌, ℕ, zero, suc, ◌+◌, ◌<◌, Bool, List, [], ◌∷◌, length, take, get_or, refl, sym, ap, ◌∙◌, arith}
use Rattle.std.specs.List.{filter, range_with_len}
use Rattle.std.proofs.lemmas.List.Sums.{sum_by-cons}
use Rattle.sift_base.specs.Shapes.{Shape, words_in}
use Rattle.sift_base.specs.laws.Shapes.{words_in-cons}
use Rattle.sift_lang.specs.Tree.{TaskTree}
use Rattle.sift_program.specs.Program.{block_reads, reads_task, shapes_from, task_at, output_count}

-- the task reads word w of this frame
abbrev pub reads_word : TaskTree → ℕ → Bool
reads_word task w = block_reads w task.body

-- the shape of task t
abbrev pub shape_in : List TaskTree → ℕ → TaskTree → Shape
shape_in tasks t task = record { outputs = task.outputs; needs = filter (reads_task tasks task) (range_with_len 0 t) }

-- the outputs of one task more
pub output_count-cons : (task : TaskTree) (tasks : List TaskTree) → output_count (task ∷ tasks) ≡ task.outputs + output_count tasks
output_count-cons task tasks = sum_by-cons (λ t. t.outputs) task tasks

-- ---- shapes

module _ (all : List TaskTree) where
  -- there is a shape for each task
  pub length-shapes : (t : ℕ) (rest : List TaskTree) → length (shapes_from all t rest) ≡ length rest
  length-shapes t [] = refl
  length-shapes t (task ∷ rest) = ap suc (length-shapes (suc t) rest)

  -- they have the tasks' words
  pub words-shapes : (t : ℕ) (rest : List TaskTree) → words_in (shapes_from all t rest) ≡ output_count rest
  words-shapes t [] = refl
  words-shapes t (task ∷ rest) =
      words_in-cons (shape_in all t task) (shapes_from all (suc t) rest)
      ∙ (ap (λ n. task.outputs + n) (words-shapes (suc t) rest) ∙ sym (output_count-cons task rest))

  -- the shapes of the first tasks
  pub take-shapes : (n t : ℕ) (rest : List TaskTree) → take n (shapes_from all t rest) ≡ shapes_from all t (take n rest)
  take-shapes zero t rest = refl
  take-shapes (suc n) t [] = refl
  take-shapes (suc n) t (task ∷ rest) = ap (λ shapes. shape_in all t task ∷ shapes) (take-shapes n (suc t) rest)

  -- the shape of a task that is there
  pub shape-there : (i t : ℕ) (rest : List TaskTree) (d : Shape) → i < length rest → get_or (shapes_from all t rest) i d ≡ shape_in all (t + i) (task_at rest i)
  shape-there i t [] d low = absurd (omega arith)
  shape-there zero t (task ∷ rest) d low = let e : t + 0 ≡ t = omega arith in rw e refl
  shape-there (suc i) t (task ∷ rest) d low = let e : t + suc i ≡ suc t + i = omega arith in rw e (shape-there i (suc t) rest d (omega arith))
