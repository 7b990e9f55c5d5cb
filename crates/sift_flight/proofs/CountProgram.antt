-- The program of the calm mission `count`.
use Rattle.std.proofs.Common.{◌≡◌, ℕ, zero, suc, ◌+◌, ◌<◌, List, [], ◌∷◌, slice_get, slice_index, Some, refl, ap, subst, arith}
use Rattle.std.proofs.lemmas.List.Elements.{All-nil, All-cons}
use Rattle.std.proofs.lemmas.Option.{same_Some}
use Rattle.sift_lang.specs.Tree.{TaskTree}
use Rattle.sift_lang.specs.Sound.{IsSound, AllNowsBelow}
use Rattle.sift_lang.specs.Meaning.{meaning}
use Rattle.sift_program.specs.Program.{first_word}
use Rattle.sift_mission.specs.Premises.{IsAmong, RunsProgram}
use Rattle.sift_flight.specs.Calm.{mission_of, program_of}
use Rattle.sift_flight.specs.Calms.{count_task, count}

-- what holds of word 0 holds of each word
pub one_word : (P : ℕ → Type 0) → P 0 → (w : ℕ) → w < 1 → P w
one_word P p w low = let e : 0 ≡ w = omega arith in subst P e p

-- the task is sound
sound_task : IsSound 0 1 count_task
sound_task = record {
  some_output = omega arith;
  few_outputs = omega arith;
  few_repeats = omega arith;
  sound_body = ((record { names = ((tt, omega arith), tt); needs = omega arith }, omega arith), tt);
}

-- the mission runs the program
pub runs : RunsProgram (mission_of count) (program_of count)
runs = record {
  sound = record {
    some_task = omega arith;
    few_tasks = omega arith;
    a_start_each = refl;
    few_words = omega arith;
    tasks_sound = All-cons (IsSound 0 1) count_task [] sound_task (All-nil (IsSound 0 1));
    reads_earlier_words = λ t task at. earlier t task at;
  };
  words = refl;
  starts = refl;
  each = one_word (λ w. IsAmong (program_of count) w w) (record { task = count_task; at = refl; from = omega arith; below = omega arith });
  task = λ t w own. among t w own;
  word = λ t i task ins now last at low. word t i task ins now last at low;
}
  where
    earlier : (t : ℕ) (task : TaskTree) → slice_get (count_task ∷ []) t ≡ Some task → AllNowsBelow (first_word (count_task ∷ []) t) task
    earlier zero task at = subst (AllNowsBelow 0) (same_Some count_task task at) (((tt, tt), tt), tt)
    earlier (suc t) task at = absurd cc

    among : (t w : ℕ) → IsAmong (program_of count) t w → w ≡ t
    among zero w own =
        let size : 1 ≡ own.task.outputs = ap (λ (tree : TaskTree). tree.outputs) (same_Some count_task own.task own.at) in
        let below : w < 0 + own.task.outputs = own.below in
        omega arith
    among (suc t) w own = let at = own.at in absurd cc

    word : (t i : ℕ) (task : TaskTree) (ins now last : List ℕ) → slice_get (count_task ∷ []) t ≡ Some task → i < task.outputs
        → (mission_of count).word (first_word (count_task ∷ []) t + i) ins now last ≡ slice_index (meaning task ins now last) i
    word zero i task ins now last at low =
        subst (λ task. i < task.outputs → (mission_of count).word (0 + i) ins now last ≡ slice_index (meaning task ins now last) i) (same_Some count_task task at)
        (λ low. one_word (λ i. (mission_of count).word (0 + i) ins now last ≡ slice_index (meaning count_task ins now last) i) refl i low) low
    word (suc t) i task ins now last at low = absurd cc
