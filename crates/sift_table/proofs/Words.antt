-- The words of the tasks follow one another.
use Rattle.std.proofs.Common.{◌≡◌, ℕ, zero, suc, ◌+◌, ◌-◌, ◌<◌, ◌≤◌, List, [], ◌∷◌, length, take, get_or, ap, refl, inl, inr, arith, zero-add}
use Rattle.std.proofs.lemmas.Bool.{cases_lt, lt-ltb, le-ltb}
use Rattle.sift_base.specs.Shapes.{Shape, words_in}
use Rattle.sift_base.specs.laws.Shapes.{words_in-cons}
use Rattle.sift_table.specs.Laws.{WordsHaveTheirTask}
use Rattle.sift_table.specs.Timing.{task_of}

-- each word is a word of a task that is there
task_of-below : (tasks : List Shape) (w : ℕ) → w < words_in tasks → task_of tasks w < length tasks
task_of-below [] w low = absurd (omega arith)
task_of-below (task ∷ tasks) w low = elim (cases_lt w task.outputs) [
  | inl own ↦ rw (lt-ltb w task.outputs own) (omega arith)
  | inr past ↦ rw (le-ltb w task.outputs past) (omega (arith, task_of-below tasks (w - task.outputs) (omega (arith, words_in-cons task tasks))))
]

-- word j of task t is put out by task t
task_of-first : (d : Shape) (tasks : List Shape) (t j : ℕ) → t < length tasks → j < (get_or tasks t d).outputs → task_of tasks (words_in (take t tasks) + j) ≡ t
task_of-first d [] t j there own = absurd (omega arith)
task_of-first d (task ∷ tasks) zero j there own = rw (zero-add j, lt-ltb j task.outputs own) refl
task_of-first d (task ∷ tasks) (suc t) j there own =
    let more = words_in-cons task (take t tasks) in
    let past : task.outputs ≤ words_in (take (suc t) (task ∷ tasks)) + j = omega (arith, more) in
    let left : words_in (take (suc t) (task ∷ tasks)) + j - task.outputs ≡ words_in (take t tasks) + j = omega (arith, more) in
    rw (le-ltb (words_in (take (suc t) (task ∷ tasks)) + j) task.outputs past, left) (ap suc (task_of-first d tasks t j (omega arith) own))

-- the words of a task are put out by that task, and each word is put out by a task that is there
pub words_have_their_task : WordsHaveTheirTask
words_have_their_task shapes = (
  λ t j there own. task_of-first (record { outputs = 0; needs = [] }) shapes.tasks t j there own,
  λ w low. task_of-below shapes.tasks w low,
)
