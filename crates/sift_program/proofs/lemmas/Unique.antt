-- The words of a frame are the one list that meets each task.
use Rattle.std.proofs.Common.{◌≡◌, ℕ, zero, suc, ◌+◌, ◌-◌, ◌≤◌, ◌<◌, List, [], ◌∷◌, ◌++◌, if◌then◌else◌}
use Rattle.std.proofs.Common.{length, take, drop, get_or, Some, slice_get, slice_range, slice_index, add-one, zero-add, suc-add, refl, sym, ap, ◌∙◌, arith}
use Rattle.std.proofs.lemmas.List.{append-nil, append_assoc, take_at, drop_at, take_all, get_or-take}
use Rattle.std.proofs.lemmas.Option.{slice_get-get_or, slice_get_within}
use Rattle.sift_base.specs.Units.{has}
use Rattle.sift_lang.specs.Tree.{TaskTree, end}
use Rattle.sift_lang.specs.Meaning.{meaning}
use Rattle.sift_program.specs.Program.{output_count, first_word, ReadsEarlierWords}
use Rattle.sift_program.specs.Ideal.{words_made, words_of, MeetsEachTask, IdealFrameIsUnique}
use Rattle.sift_program.proofs.lemmas.Frames.{words_held, task_words, task_at-there, first_word-more, length-task_words, length-words_made, words_made-more}
use Rattle.sift_program.proofs.lemmas.Earlier.{meaning-same}

-- ---- lists

take-nil : (n : ℕ) → take {A = ℕ} n [] ≡ []
take-nil zero = refl
take-nil (suc n) = refl

-- the first a elements, and then the next n
take-add : (a n : ℕ) (xs : List ℕ) → take (a + n) xs ≡ take a xs ++ take n (drop a xs)
take-add zero n xs = rw (zero-add n) refl
take-add (suc a) n [] = rw (suc-add a n) (sym (take-nil n))
take-add (suc a) n (x ∷ xs) = rw (suc-add a n) (ap (λ ys. x ∷ ys) (take-add a n xs))

-- the same, with the part as a range
take-range : (a n : ℕ) (xs : List ℕ) → take (a + n) xs ≡ take a xs ++ slice_range xs a (a + n)
take-range a n xs =
    let count : (a + n) - a ≡ n = omega arith in
    rw count (take-add a n xs)

-- a part of a list that stands between two others
slice_range-middle : (front part rest : List ℕ) (a n : ℕ) → length front ≡ a → length part ≡ n → slice_range ((front ++ part) ++ rest) a (a + n) ≡ part
slice_range-middle front part rest a n first size =
    let count : (a + n) - a ≡ n = omega arith in
    rw (count, append_assoc front part rest, drop_at front (part ++ rest) a first) (take_at part rest n size)

module _ (tasks : List TaskTree) (prev agreed shed : List ℕ) where
  -- the words of the first tasks
  abbrev first_made : ℕ → List ℕ
  first_made t = words_made tasks prev agreed shed t

  -- tasks only add words
  words_made-extends : (t k : ℕ) → (more : List ℕ) × (first_made (t + k) ≡ first_made t ++ more)
  words_made-extends t zero = ([], let none : t + 0 ≡ t = omega arith in rw none (sym (append-nil (first_made t))))
  words_made-extends t (suc k) =
      let words = task_words tasks prev agreed shed (first_made (t + k)) (t + k) in
      let e = words_made-extends t k in
      let one_more : t + suc k ≡ suc (t + k) = omega arith in
      (e.0 ++ words, rw one_more (ap (λ ws. ws ++ words) e.1 ∙ append_assoc (first_made t) e.0 words))

  -- the words of the first tasks stand first
  words_made-front : (t : ℕ) → t ≤ length tasks → (more : List ℕ) × (first_made (length tasks) ≡ first_made t ++ more)
  words_made-front t within =
      let e = words_made-extends t (length tasks - t) in
      let all : t + (length tasks - t) ≡ length tasks = omega arith in
      (e.0, rw all at e.1)

  -- a frame begins with the words of the first tasks
  abbrev BeginsWith : ℕ → List ℕ → Type 0
  BeginsWith t frame = take (first_word tasks t) frame ≡ first_made t

  -- so do the words that the tasks make
  take-words_made : (t : ℕ) → t ≤ length tasks → BeginsWith t (first_made (length tasks))
  take-words_made t within =
      let e = words_made-front t within in
      rw e.1 (take_at (first_made t) e.0 (first_word tasks t) (length-words_made tasks prev agreed shed t))

  -- the words of a task that is there, over a frame
  abbrev words_over : ℕ → TaskTree → List ℕ → List ℕ
  words_over t task frame = if has shed t then words_held prev (first_word tasks t) task.outputs else meaning task agreed frame prev

  -- where a list begins with the words of the tasks before, a task has the same words over both
  task_words-front : (t : ℕ) (task : TaskTree) (frame : List ℕ) → ReadsEarlierWords tasks → slice_get tasks t ≡ Some task → BeginsWith t frame
      → task_words tasks prev agreed shed (first_made t) t ≡ words_over t task frame
  task_words-front t task frame earlier here begins =
      let same = meaning-same (first_word tasks t) task agreed (first_made t) frame prev
      (λ w below. ap (λ (ws : List ℕ). slice_index ws w) (sym begins) ∙ get_or-take (first_word tasks t) frame w 0 below)
      (earlier t task here) in
      ap (λ (u : TaskTree). words_over t u (first_made t)) (task_at-there tasks t task here)
      ∙ ap (λ (ws : List ℕ). if has shed t then words_held prev (first_word tasks t) task.outputs else ws) same

  -- the words that the tasks make meet each task
  words_made-meets : ReadsEarlierWords tasks → MeetsEachTask tasks prev agreed shed (first_made (length tasks))
  words_made-meets earlier = record {
    whole = length-words_made tasks prev agreed shed (length tasks) ∙ ap output_count (take_all (length tasks) tasks (omega arith));
    each_task = λ t task here.
        let within = slice_get_within tasks t task here in
        let words = task_words tasks prev agreed shed (first_made t) t in
        let e = words_made-front (t + 1) (omega arith) in
        let front = e.1 ∙ ap (λ (ws : List ℕ). ws ++ e.0) (words_made-more tasks t prev agreed shed) in
        let size = length-task_words tasks prev agreed shed (first_made t) t ∙ ap (λ (u : TaskTree). u.outputs) (task_at-there tasks t task here) in
        let part = slice_range-middle (first_made t) words e.0 (first_word tasks t) task.outputs (length-words_made tasks prev agreed shed t) size in
        ap (words_of tasks t task) front ∙ part ∙ task_words-front t task _ earlier here (take-words_made t (omega arith));
  }

  -- a list that meets each task begins with the words of the first tasks
  meets-front : (frame : List ℕ) → ReadsEarlierWords tasks → MeetsEachTask tasks prev agreed shed frame → (t : ℕ) → t ≤ length tasks → BeginsWith t frame
  meets-front frame earlier meets zero within = refl
  meets-front frame earlier meets (suc t) within =
      let any : TaskTree = record { outputs = 0; body = end } in
      let inside : t < length tasks = omega arith in
      let task = get_or tasks t any in
      let here = slice_get-get_or tasks t any inside in
      let begins = meets-front frame earlier meets t (omega arith) in
      let count : first_word tasks (suc t) ≡ first_word tasks t + task.outputs = rw add-one at (first_word-more tasks t) in
      let words = meets.each_task t task here ∙ sym (task_words-front t task frame earlier here begins) in
      rw (count, take-range, begins, words) refl

-- the words of a frame are the one list that meets each task
pub ideal_frame-unique : IdealFrameIsUnique
ideal_frame-unique sensors program prev agreed shed frame sound =
    let tasks = program.tasks in
    let earlier = sound.reads_earlier_words in (
      λ is. rw is (words_made-meets tasks prev agreed shed earlier),
      λ meets.
          let all = take_all (length tasks) tasks (omega arith) in
          let begins = rw all at (meets-front tasks prev agreed shed frame earlier meets (length tasks) (omega arith)) in
          sym (take_all (output_count tasks) frame (omega (arith, meets.whole))) ∙ begins,
    )
