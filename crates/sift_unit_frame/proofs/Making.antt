-- The words of a task have their places among all words.
use Rattle.std.proofs.Common.{◌≡◌, ℕ, ◌+◌, ◌<◌, ◌≤◌, ◌++◌, List, length, get_or, take, drop, true, false, inl, inr, refl, sym, ap, ◌∙◌, subst, arith, eq-eqb, lt-ltb, le-ltb, ne_eqb, Some}
use Rattle.std.specs.Prelude.{slice_get, slice_index}
use Rattle.std.proofs.lemmas.Bool.{cases_lt}
use Rattle.std.proofs.lemmas.List.Sums.{sum_by_more_le}
use Rattle.std.proofs.lemmas.Option.{get_or_from_slice_get, slice_get_within}
use Rattle.sift_code.specs.Ends.{Fits, RunsTo}
use Rattle.sift_code.specs.Machine.{Done, inputs}
use Rattle.sift_code.specs.Refusal.{Program}
use Rattle.sift_compile.specs.Tasks.{IsCodeOf}
use Rattle.sift_lang.specs.Meaning.{meaning}
use Rattle.sift_lang.specs.Tree.{TaskTree}
use Rattle.sift_program.specs.Program.{ProgramTree, first_word}
use Rattle.sift_mission.specs.Data.{FlownMission}
use Rattle.sift_mission.specs.Premises.{IsAmong, RunsProgram}
use Rattle.sift_unit_frame.specs.Memory.{renewed, is_word_of}
use Rattle.sift_unit_frame.proofs.Splices.{splice_is}

-- two runs that are done have the same words
same_outs : (one other : List ℕ) → Done one ≡ Done other → one ≡ other
same_outs one other same = cc

-- what stands at a place is one thing
same_task : (one other : TaskTree) → Some one ≡ Some other → one ≡ other
same_task one other same = cc

module _ (m : FlownMission) (program : ProgramTree) (runs : RunsProgram m program) (t : ℕ) (task : TaskTree) (at : slice_get program.tasks t ≡ Some task) where
  -- the task's first word
  abbrev first : ℕ
  first = first_word program.tasks t

  -- there is room for its words among all
  pub task_room : first + task.outputs ≤ m.words
  task_room =
      let same : get_or program.tasks t task ≡ task = get_or_from_slice_get program.tasks t task task at in
      let room = sum_by_more_le (λ (tree : TaskTree). tree.outputs) program.tasks t task (slice_get_within program.tasks t task at) in
      omega (arith, runs.words, room, ap (λ (tree : TaskTree). tree.outputs) same)

  -- a word of the task is one of these
  own_place : (w : ℕ) → w < m.words → m.task w ≡ t → (first ≤ w) × (w < first + task.outputs)
  own_place w low is =
      let among : IsAmong program t w = subst (λ n. IsAmong program n w) is (runs.each w low) in
      let same = ap (λ (tree : TaskTree). tree.outputs) (same_task among.task task (sym among.at ∙ at)) in
      (among.from, omega (arith, among.below, same))

  -- no other is one of the task
  others_not : (w : ℕ) → (first ≤ w → w < first + task.outputs → ⊥) → is_word_of m t w ≡ false
  others_not w out = elim (cases_lt w m.words) [
    | inl low ↦ rw (lt-ltb w m.words low) (ne_eqb (m.task w) t (λ is. let own = own_place w low is in out own.0 own.1))
    | inr high ↦ rw (le-ltb w m.words high) refl
  ]

  -- each of these is
  own_is : (j : ℕ) → j < task.outputs → is_word_of m t (first + j) ≡ true
  own_is j low =
      let inside : first + j < m.words = omega (arith, task_room) in
      let here : IsAmong program t (first + j) = record { task = task; at = at; from = omega arith; below = omega arith } in
      rw (lt-ltb (first + j) m.words inside) (eq-eqb (m.task (first + j)) t (runs.task t (first + j) here))

  -- words that are the task's meaning, put into their places, are its words made anew
  words_made : (ins now last words list : List ℕ) → words ≡ meaning task ins now last → length words ≡ task.outputs → length list ≡ m.words
      → take first list ++ (words ++ drop (first + length words) list) ≡ renewed (is_word_of m t) (λ w. m.word w ins now last) list 0
  words_made ins now last words list is size long =
      let room = task_room in
      let from : 0 + first ≡ first = omega arith in
      sym (splice_is (is_word_of m t) (λ w. m.word w ins now last) list words 0 first (omega arith)
      (λ j low.
      rw from (
        own_is j (omega arith),
        runs.word t j task ins now last at (omega arith) ∙ ap (λ ws. slice_index ws j) (sym is),
      ))
      (λ w low. others_not w (λ above below. omega arith))
      (λ w high. others_not w (λ above below. omega arith)))

  module _ (code : Program) (of : IsCodeOf m.sensors m.words task code) (ins now last : List ℕ)
      (in_size : length ins ≡ m.sensors) (now_size : length now ≡ m.words) (last_size : length last ≡ m.words) where
    -- the task's code runs on as many words as there are
    code_fits : Fits (inputs ins now last) code.limits
    code_fits = rw of.limits_are (record { sensed = in_size; made = now_size; last = last_size })

    -- a run of it leaves the task's words, put into their places
    pub run_makes : (words list : List ℕ) → RunsTo code (inputs ins now last) words → length words ≡ code.limits.outputs → length list ≡ m.words
        → take first list ++ (words ++ drop (first + length words) list) ≡ renewed (is_word_of m t) (λ w. m.word w ins now last) list 0
    run_makes words list ran size long =
        words_made ins now last words list (same_outs words (meaning task ins now last) (sym ran ∙ of.means (inputs ins now last) code_fits))
        (size ∙ ap (λ l. l.outputs) of.limits_are) long
