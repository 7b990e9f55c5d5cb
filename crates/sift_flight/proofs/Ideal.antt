-- The ideal machine's words are those that each task makes.
use Rattle.std.proofs.Common.{◌≡◌, inl, inr, ⊎_elim, ℕ, suc, ◌+◌, ◌-◌, ◌<◌, ◌≤◌, List, [], ◌∷◌, length, take, drop, slice_get, slice_index, Some}
use Rattle.std.proofs.Common.{if◌then◌else◌, refl, sym, ap, ◌∙◌, subst, arith}
use Rattle.std.proofs.lemmas.Bool.{cases_Bool, cases_lt}
use Rattle.std.proofs.lemmas.List.{get_or-take, get_or-drop}
use Rattle.std.proofs.lemmas.List.FromFn.{get_or-map-range_with_len}
use Rattle.std.proofs.lemmas.List.Sums.{sum_by-cons}
use Rattle.sift_base.specs.Units.{has}
use Rattle.sift_lang.specs.Tree.{TaskTree}
use Rattle.sift_program.specs.Program.{ProgramTree, output_count, first_word}
use Rattle.sift_program.specs.Ideal.{ideal_frame, MeetsEachTask}
use Rattle.sift_program.proofs.lemmas.Unique.{ideal_frame-unique}
use Rattle.sift_mission.specs.Data.{FlownMission}
use Rattle.sift_mission.specs.Slots.{is_held}
use Rattle.sift_mission.specs.Premises.{RunsProgram}

-- each word of a frame is the one that its task makes of the agreed words, the frame's own and those of the frame before; and where the
-- configuration holds it, the word of the frame before
pub record IsStep (m : FlownMission) (us ins last outs : List ℕ) : Type 0 where
  pub count : length outs ≡ m.words
  pub makes : (w : ℕ) → w < m.words → slice_index outs w ≡ (if is_held m us w then slice_index last w else m.word w ins outs last)

-- the task of a word, and the word's place among those of the task
record Place (tasks : List TaskTree) (w : ℕ) : Type 0 where
  t : ℕ
  i : ℕ
  task : TaskTree
  at : slice_get tasks t ≡ Some task
  low : i < task.outputs
  is : first_word tasks t + i ≡ w

-- each word has its place
place_of : (tasks : List TaskTree) (w : ℕ) → w < output_count tasks → Place tasks w
place_of [] w below = absurd (omega arith)
place_of (task ∷ tasks) w below =
    let more = sum_by-cons (λ (t : TaskTree). t.outputs) task tasks in
    ⊎_elim
    (λ (z : w < task.outputs). record { t = 0; i = w; task = task; at = refl; low = z; is = omega arith })
    (λ (z : task.outputs ≤ w).
    let p = place_of tasks (w - task.outputs) (omega arith) in
    let is = p.is in
    let front : first_word (task ∷ tasks) (suc p.t) ≡ task.outputs + first_word tasks p.t = sum_by-cons (λ (t : TaskTree). t.outputs) task (take p.t tasks) in
    record { t = suc p.t; i = p.i; task = p.task; at = p.at; low = p.low; is = omega arith })
    (cases_lt w task.outputs)

module _ (m : FlownMission) (program : ProgramTree) (us ins last : List ℕ) (runs : RunsProgram m program) where
  -- the words of the frame, where those tasks are shed that the configuration sheds
  abbrev outs : List ℕ
  outs = ideal_frame program last ins (m.shed us)

  meets : MeetsEachTask program.tasks last ins (m.shed us) outs
  meets = (ideal_frame-unique m.sensors program last ins (m.shed us) outs runs.sound).0 refl

  -- word i of a task
  at_place : (t i : ℕ) (task : TaskTree) → slice_get program.tasks t ≡ Some task → i < task.outputs → slice_index outs (first_word program.tasks t + i)
      ≡ (if has (m.shed us) t then slice_index last (first_word program.tasks t + i) else m.word (first_word program.tasks t + i) ins outs last)
  at_place t i task at low =
      let first : ℕ = first_word program.tasks t in
      let within : i < (first + task.outputs) - first = omega (arith, low) in
      let here = sym (get_or-drop first outs i 0) ∙ sym (get_or-take ((first + task.outputs) - first) (drop first outs) i 0 within) in
      let words = meets.each_task t task at in
      elim (cases_Bool (has (m.shed us) t)) [
        | inl held ↦ rw held (here ∙ (ap (λ ws. slice_index ws i) (rw held at words) ∙ get_or-map-range_with_len (slice_index last) first task.outputs i (first + i) 0 low refl))
        | inr kept ↦ rw kept (here ∙ (ap (λ ws. slice_index ws i) (rw kept at words) ∙ sym (runs.word t i task ins outs last at low)))
      ]

  -- so each word is that of its place
  at_word : (w : ℕ) → Place program.tasks w → slice_index outs w ≡ (if is_held m us w then slice_index last w else m.word w ins outs last)
  at_word w p =
      let is = p.is in
      let low = p.low in
      let task_is : m.task w ≡ p.t = runs.task p.t w (record { task = p.task; at = p.at; from = omega arith; below = omega arith }) in
      rw task_is (subst (λ w. slice_index outs w ≡ (if has (m.shed us) p.t then slice_index last w else m.word w ins outs last)) is (at_place p.t p.i p.task p.at p.low))

  -- and the frame is a step
  pub ideal_step : IsStep m us ins last outs
  ideal_step = record { count = meets.whole ∙ sym runs.words; makes = λ w low. at_word w (place_of program.tasks w (omega (arith, runs.words))) }
