-- The program of the calm mission `gauge`.
use Rattle.std.proofs.Common.{◌≡◌, ℕ, zero, suc, ◌+◌, ◌<◌, ◌≤◌, List, [], ◌∷◌, slice_get, slice_index, Some, refl, ap, subst, arith}
use Rattle.std.proofs.lemmas.List.Elements.{All-nil, All-cons}
use Rattle.std.proofs.lemmas.Option.{same_Some}
use Rattle.sift_lang.specs.Tree.{TaskTree}
use Rattle.sift_lang.specs.Sound.{IsSound, AllNowsBelow}
use Rattle.sift_lang.specs.Meaning.{meaning}
use Rattle.sift_program.specs.Program.{first_word}
use Rattle.sift_mission.specs.Premises.{IsAmong, RunsProgram}
use Rattle.sift_flight.specs.Calm.{mission_of, program_of}
use Rattle.sift_flight.specs.Calms.{reading_task, adding_task, gauge}

-- what holds of the first holds of each of one, and what holds of both of each of two
pub one : (P : ℕ → Type 0) → P 0 → (x : ℕ) → x < 1 → P x
one P p x low = let e : 0 ≡ x = omega arith in subst P e p

-- and of both of each of two
pub two : (P : ℕ → Type 0) → P 0 → P 1 → (w : ℕ) → w < 2 → P w
two P p q zero low = p
two P p q (suc zero) low = q
two P p q (suc (suc w)) low = absurd (omega arith)

abbrev tasks : List TaskTree
tasks = reading_task ∷ adding_task ∷ []

-- the tasks are sound
sound_reading : IsSound 1 2 reading_task
sound_reading = record {
  some_output = omega arith;
  few_outputs = omega arith;
  few_repeats = omega arith;
  sound_body = ((record { names = (omega arith, tt); needs = omega arith }, omega arith), tt);
}

-- the second reads a word of the first
sound_adding : IsSound 1 2 adding_task
sound_adding = record {
  some_output = omega arith;
  few_outputs = omega arith;
  few_repeats = omega arith;
  sound_body = ((record { names = ((tt, omega arith), omega arith); needs = omega arith }, omega arith), tt);
}

-- a task makes a word of the mission
abbrev Makes : ℕ → ℕ → List ℕ → List ℕ → List ℕ → TaskTree → Type 0
Makes first i ins now last task = i < task.outputs → (mission_of gauge).word (first + i) ins now last ≡ slice_index (meaning task ins now last) i

-- the mission runs the program
pub runs : RunsProgram (mission_of gauge) (program_of gauge)
runs = record {
  sound = record {
    some_task = omega arith;
    few_tasks = omega arith;
    a_start_each = refl;
    few_words = omega arith;
    tasks_sound = All-cons (IsSound 1 2) reading_task (adding_task ∷ []) sound_reading (All-cons (IsSound 1 2) adding_task [] sound_adding (All-nil (IsSound 1 2)));
    reads_earlier_words = λ t task at. earlier t task at;
  };
  words = refl;
  starts = refl;
  each = two (λ w. IsAmong (program_of gauge) w w)
      (record { task = reading_task; at = refl; from = omega arith; below = omega arith })
      (record { task = adding_task; at = refl; from = omega arith; below = omega arith });
  task = λ t w own. among t w own;
  word = λ t i task ins now last at low. word t i task ins now last at low;
}
  where
    earlier : (t : ℕ) (task : TaskTree) → slice_get tasks t ≡ Some task → AllNowsBelow (first_word tasks t) task
    earlier zero task at = subst (AllNowsBelow 0) (same_Some reading_task task at) ((tt, tt), tt)
    earlier (suc zero) task at = subst (AllNowsBelow 1) (same_Some adding_task task at) (((tt, omega arith), tt), tt)
    earlier (suc (suc t)) task at = absurd cc

    among : (t w : ℕ) → IsAmong (program_of gauge) t w → w ≡ t
    among zero w own =
        let size : 1 ≡ own.task.outputs = ap (λ (tree : TaskTree). tree.outputs) (same_Some reading_task own.task own.at) in
        let below : w < 0 + own.task.outputs = own.below in
        omega arith
    among (suc zero) w own =
        let size : 1 ≡ own.task.outputs = ap (λ (tree : TaskTree). tree.outputs) (same_Some adding_task own.task own.at) in
        let from : 1 ≤ w = own.from in
        let below : w < 1 + own.task.outputs = own.below in
        omega arith
    among (suc (suc t)) w own = let at = own.at in absurd cc

    word : (t i : ℕ) (task : TaskTree) (ins now last : List ℕ) → slice_get tasks t ≡ Some task → i < task.outputs
        → (mission_of gauge).word (first_word tasks t + i) ins now last ≡ slice_index (meaning task ins now last) i
    word zero i task ins now last at low = subst (Makes 0 i ins now last) (same_Some reading_task task at)
        (λ low. one (λ i. (mission_of gauge).word (0 + i) ins now last ≡ slice_index (meaning reading_task ins now last) i) refl i low) low
    word (suc zero) i task ins now last at low = subst (Makes 1 i ins now last) (same_Some adding_task task at)
        (λ low. one (λ i. (mission_of gauge).word (1 + i) ins now last ≡ slice_index (meaning adding_task ins now last) i) refl i low) low
    word (suc (suc t)) i task ins now last at low = absurd cc
