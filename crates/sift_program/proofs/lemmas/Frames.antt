-- What the tasks of a sound program need and make, one after the other.
use Rattle.std.proofs.Common.{◌≡◌, ℕ, zero, suc, ◌+◌, ◌-◌, ◌<◌, ◌≤◌, List, ◌∷◌, ◌++◌, Bool, true, false, if◌then◌else◌}
use Rattle.std.proofs.Common.{length, map, take, drop, get_or, Some, slice_get, slice_index, slice_range, inl, inr, add-one, refl, sym, ap, ◌∙◌, arith}
use Rattle.std.specs.List.{range_with_len}
use Rattle.std.specs.Option.{option_map}
use Rattle.std.proofs.lemmas.Bool.{cases_lt}
use Rattle.std.proofs.lemmas.List.{drop_more, get_or_past, length-append, take_all}
use Rattle.std.proofs.lemmas.List.FromFn.{length-map-range_with_len}
use Rattle.std.proofs.lemmas.List.Sums.{sum_by_more, sum_by_more_le}
use Rattle.std.proofs.lemmas.Option.{slice_get-map, slice_get_within, slice_get_read, get_or_from_slice_get}
use Rattle.sift_base.specs.Units.{has}
use Rattle.sift_lang.specs.declared.tree.Task.{Task}
use Rattle.sift_lang.specs.Tree.{TaskTree, end, tree_of}
use Rattle.sift_lang.specs.Sound.{IsSound, AllNowsBelow}
use Rattle.sift_lang.specs.Meaning.{meaning}
use Rattle.sift_lang.specs.laws.States.{length-meaning}
use Rattle.sift_program.specs.declared.program.TheConstants.{WORD_LIMIT}
use Rattle.sift_program.specs.declared.program.Program.{Program}
use Rattle.sift_program.specs.Program.{task_at, ProgramTree, program_of, output_count, first_word, IsSoundProgram}
use Rattle.sift_program.specs.Ideal.{words_made, ideal_frame}

-- the words of so many numbers from the first on, in the frame before
abbrev pub words_held : List ℕ → ℕ → ℕ → List ℕ
words_held prev first count = map (slice_index prev) (range_with_len first count)

-- the words of task t in a frame, where the tasks before it have made these
abbrev pub task_words : List TaskTree → List ℕ → List ℕ → List ℕ → List ℕ → ℕ → List ℕ
task_words tasks prev agreed shed made t =
    let task = task_at tasks t in
    if has shed t then words_held prev (first_word tasks t) task.outputs else meaning task agreed made prev

-- the tree of the task that a loop over the program's tasks has come to
pub tree_at : (program : Program) (tasks : List Task) (i : ℕ) (task : Task) → tasks ≡ program.tasks.items → i < length tasks
    → task ≡ get_or tasks i task → slice_get (program_of program).tasks i ≡ Some (tree_of task)
tree_at program tasks i task all within is =
    rw (← all) (slice_get-map tree_of tasks i ∙ ap (option_map tree_of) (slice_get_read tasks (length tasks) i task refl within is))

-- a task that is there is the one at its place
pub task_at-there : (tasks : List TaskTree) (t : ℕ) (task : TaskTree) → slice_get tasks t ≡ Some task → task_at tasks t ≡ task
task_at-there tasks t task here = get_or_from_slice_get tasks t task (record { outputs = 0; body = end }) here

-- ---- how many words

-- the words of the tasks before the next one, also past the list's end
pub first_word-more : (tasks : List TaskTree) (t : ℕ) → first_word tasks (t + 1) ≡ first_word tasks t + (task_at tasks t).outputs
first_word-more tasks t =
    let none : TaskTree = record { outputs = 0; body = end } in
    elim (cases_lt t (length tasks)) [
      | inl within ↦ sum_by_more (λ (u : TaskTree). u.outputs) tasks t none within
      | inr past ↦
          let here = ap (λ (u : TaskTree). u.outputs) (get_or_past tasks t none past) in
          rw (take_all t tasks past, take_all (t + 1) tasks (omega arith)) (omega (arith, here))
    ]

-- a task has as many words as it says, shed or not
pub length-task_words : (tasks : List TaskTree) (prev agreed shed made : List ℕ) (t : ℕ) → length (task_words tasks prev agreed shed made t) ≡ (task_at tasks t).outputs
length-task_words tasks prev agreed shed made t = either (has shed t) where
  either : (b : Bool) → length (if b then words_held prev (first_word tasks t) (task_at tasks t).outputs else meaning (task_at tasks t) agreed made prev) ≡ (task_at tasks t).outputs
  either true = length-map-range_with_len (slice_index prev) (first_word tasks t) (task_at tasks t).outputs
  either false = length-meaning (task_at tasks t) agreed made prev

-- tasks make as many words as they have outputs
pub length-words_made : (tasks : List TaskTree) (prev agreed shed : List ℕ) (t : ℕ) → length (words_made tasks prev agreed shed t) ≡ first_word tasks t
length-words_made tasks prev agreed shed zero = refl
length-words_made tasks prev agreed shed (suc t) =
    let made = words_made tasks prev agreed shed t in
    let words = task_words tasks prev agreed shed made t in
    let more = rw add-one at (first_word-more tasks t) in
    omega (arith, more, length-append made words, length-task_words tasks prev agreed shed made t, length-words_made tasks prev agreed shed t)

-- a frame has a word for each output
pub length-ideal_frame : (program : ProgramTree) (prev agreed shed : List ℕ) → length (ideal_frame program prev agreed shed) ≡ output_count program.tasks
length-ideal_frame program prev agreed shed =
    length-words_made program.tasks prev agreed shed (length program.tasks)
    ∙ ap output_count (take_all (length program.tasks) program.tasks (omega arith))

-- ---- one task more

-- the words held are the part of the list at their numbers
pub words_held-range : (prev : List ℕ) (first count : ℕ) → first + count ≤ length prev → words_held prev first count ≡ slice_range prev first (first + count)
words_held-range prev first count within =
    let size : (first + count) - first ≡ count = omega arith in
    rw size (taken first count within) where
      taken : (a n : ℕ) → a + n ≤ length prev → words_held prev a n ≡ take n (drop a prev)
      taken a zero le = refl
      taken a (suc n) le = ap (λ ws. slice_index prev a ∷ ws) (taken (a + 1) n (omega arith)) ∙ ap (take (suc n)) (sym (drop_more prev a 0 (omega arith)))

-- the words of one more task
pub words_made-more : (tasks : List TaskTree) (t : ℕ) (prev agreed shed : List ℕ)
    → words_made tasks prev agreed shed (t + 1) ≡ words_made tasks prev agreed shed t ++ task_words tasks prev agreed shed (words_made tasks prev agreed shed t) t
words_made-more tasks t prev agreed shed = rw add-one refl

-- the same, by the task that is there, and by whether it is shed
pub words_made-next : (tasks : List TaskTree) (t : ℕ) (task : TaskTree) (prev agreed shed made : List ℕ) (b : Bool)
    → slice_get tasks t ≡ Some task → has shed t ≡ b → made ≡ words_made tasks prev agreed shed t
    → words_made tasks prev agreed shed (t + 1) ≡ made ++ (if b then words_held prev (length made) task.outputs else meaning task agreed made prev)
words_made-next tasks t task prev agreed shed made b here is so_far =
    let first = ap length so_far ∙ length-words_made tasks prev agreed shed t in
    words_made-more tasks t prev agreed shed
    ∙ rw (task_at-there tasks t task here, is, ← so_far, first) refl

-- what the next task of a sound program finds, where the tasks before it have made their words
pub record CanRun (sensors : ℕ) (program : ProgramTree) (made : List ℕ) (task : TaskTree) : Type 0 where
  pub sound : IsSound sensors (length program.starts) task
  pub nows : AllNowsBelow (length made) task
  pub held : length made + task.outputs ≤ length program.starts
  pub room : length made + task.outputs ≤ WORD_LIMIT

-- each task of a sound program that a loop comes to can run in its place, or hold its words
pub CanRun-at : (sensors : ℕ) (program : Program) (tasks : List Task) (i : ℕ) (task : Task) (made prev agreed shed : List ℕ)
    → IsSoundProgram sensors (program_of program) → tasks ≡ program.tasks.items → i < length tasks → task ≡ get_or tasks i task
    → made ≡ words_made (program_of program).tasks prev agreed shed i → CanRun sensors (program_of program) made (tree_of task)
CanRun-at sensors program tasks i task made prev agreed shed sound all low is so_far =
    let trees = (program_of program).tasks in
    let here = tree_at program tasks i task all low is in
    let within = slice_get_within trees i (tree_of task) here in
    let found = get_or_from_slice_get trees i (tree_of task) (tree_of task) here in
    let fits = sum_by_more_le (λ (u : TaskTree). u.outputs) trees i (tree_of task) within in
    let first = ap length so_far ∙ length-words_made trees prev agreed shed i in
    record {
      sound = rw found at (sound.tasks_sound i (tree_of task) within);
      nows = rw first (sound.reads_earlier_words i (tree_of task) here);
      held = omega (arith, first, sound.a_start_each, rw found at fits);
      room = omega (arith, first, sound.a_start_each, sound.few_words, rw found at fits);
    }
