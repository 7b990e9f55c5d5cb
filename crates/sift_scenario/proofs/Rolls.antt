-- The names that texts may use, where the rules are kept.
use Rattle.std.proofs.Common.{◌≡◌, ◌≢◌, ◌<◌, ◌≤◌, ◌+◌, ◌-◌, inl, inr, ℕ, zero, suc, List, [], ◌∷◌, length, get_or, map, take, Option, Some, None, refl, sym, ap, ◌∙◌, arith}
use Rattle.std.proofs.lemmas.Bool.{cases_lt, cases_order}
use Rattle.std.proofs.lemmas.List.{get_or-map, get_or-take, length-map, length-take-le, take_all}
use Rattle.std.proofs.lemmas.Option.{get_or_from_slice_get, slice_get-get_or, slice_get_within}
use Rattle.std.specs.List.{slice_get, sum}
use Rattle.std.specs.Prelude.{codes, option_and_then, unwrap_or}
use Rattle.toml.specs.Data.{Data, Members, get_member, no_members}
use Rattle.sift_base.specs.Layout.{word_limit}
use Rattle.sift_base.specs.Name.{IsName}
use Rattle.sift_document.specs.Document.{word_array, word_value}
use Rattle.sift_document.specs.laws.ReadEntries.{array_between-long}
use Rattle.sift_parse.specs.Answer.{HasSize}
use Rattle.sift_parse.specs.Outcome.{AreDistinct, AreNames}
use Rattle.sift_scenario.specs.Program.{roll_for, turn_of}
use Rattle.sift_scenario.specs.Task.{counts_of, name_of, names_of, start_words, task_outputs, BreaksNames}
use Rattle.sift_scenario.proofs.Named.{BreaksStarts}

-- within a list the default doesn't matter
any_default : (xs : List ℕ) (k d e : ℕ) → k < length xs → get_or xs k d ≡ get_or xs k e
any_default [] k d e low = absurd (omega (arith, low))
any_default (x ∷ xs) zero d e low = refl
any_default (x ∷ xs) (suc k) d e low = any_default xs k d e (omega (arith, low))

-- ---- start words

read-long : (d : Option Data) (ws : List ℕ) → option_and_then (word_array 1 8) d ≡ Some ws → (1 ≤ length ws) × (length ws ≤ 8)
read-long None ws is = cc
read-long (Some d) ws is = array_between-long 1 8 word_value d ws is

-- a task that has start words has 1 to 8 output words
count_of : (words : Option (List ℕ)) → words ≢ None → ((ws : List ℕ) → words ≡ Some ws → (1 ≤ length ws) × (length ws ≤ 8))
    → (1 ≤ length (unwrap_or words [])) × (length (unwrap_or words []) ≤ 8)
count_of None some long = absurd (some refl)
count_of (Some ws) some long = long ws refl

module _ (tasks : List Members) where
  -- where the rule of the start words is kept
  count_at : ((at : ℕ) → ¬ BreaksStarts tasks at) → (k : ℕ) → k < length tasks → (1 ≤ get_or (counts_of tasks) k 0) × (get_or (counts_of tasks) k 0 ≤ 8)
  count_at kept k low =
      let task = get_or tasks k no_members in
      let there = slice_get-get_or tasks k no_members low in
      let some : start_words task ≢ None = λ none. kept k (record { entry = task; there = there; holds = none }) in
      rw (get_or-map task_outputs tasks k no_members 0 low) (count_of (start_words task) some (λ ws is. read-long (get_member (codes "start") task) ws is))

  -- so each task has as many words as a task may have
  pub sized : (sensors : List (List ℕ)) → ((at : ℕ) → ¬ BreaksStarts tasks at) → (t : ℕ) → t < length tasks → HasSize (turn_of t (roll_for sensors tasks))
  sized sensors kept t low = let count = count_at kept t low in record { some = omega (arith, count.0); few = omega (arith, count.1) }

  -- where the rule of the output words is kept, they are few
  pub few_words : 0 < length tasks → ((place : ℕ) → ¬ ((place < length (counts_of tasks)) × (word_limit < sum (take (place + 1) (counts_of tasks))))) → sum (counts_of tasks) ≤ 64
  few_words some kept = elim (cases_lt 64 (sum (counts_of tasks))) [
    | inl many ↦
        let long = length-map tasks task_outputs in
        let whole : take (length tasks) (counts_of tasks) ≡ counts_of tasks = take_all (length tasks) (counts_of tasks) (omega (arith, long)) in
        let at : length tasks - 1 + 1 ≡ length tasks = omega (arith, some) in
        absurd (kept (length tasks - 1) (omega (arith, long, some), rw (at, whole) many))
    | inr few ↦ few
  ]

-- ---- names

-- the name that stands at a place, where a new name is there
name_there : (o : Option (List ℕ)) (n name : List ℕ) → unwrap_or o [] ≡ n → o ≡ Some name → n ≡ name
name_there o n name read is = sym read ∙ ap (λ x. unwrap_or x []) is

-- an earlier task's name is among those before
earlier_name : (o : Option (List ℕ)) (n : List ℕ) → unwrap_or o [] ≡ n → IsName n → o ≡ Some n
earlier_name None n read named = absurd (rw (← read) at named.formed)
earlier_name (Some m) n read named = ap (λ x. Some x) read

module _ (tasks : List Members) (kept : (at : ℕ) → ¬ BreaksNames tasks at) where
  -- no later task has the name of an earlier one
  later_differs : (i j : ℕ) (n : List ℕ) → i < j → slice_get (names_of tasks) i ≡ Some n → slice_get (names_of tasks) j ≡ Some n → ⊥
  later_differs i j n before there_i there_j =
      let low : j < length tasks = rw (← length-map tasks (λ task. unwrap_or (name_of task) [])) (slice_get_within _ j n there_j) in
      let low_i : i < length tasks = omega (arith, before, low) in
      let task_i = get_or tasks i no_members in
      let task_j = get_or tasks j no_members in
      let read_i : unwrap_or (name_of task_i) [] ≡ n = sym (get_or-map (λ task. unwrap_or (name_of task) []) tasks i no_members n low_i) ∙ get_or_from_slice_get _ i n n there_i in
      let read_j : unwrap_or (name_of task_j) [] ≡ n = sym (get_or-map (λ task. unwrap_or (name_of task) []) tasks j no_members n low) ∙ get_or_from_slice_get _ j n n there_j in
      kept j (record {
        entry = task_j;
        there = slice_get-get_or tasks j no_members low;
        holds = λ name new.
            let same : n ≡ name = name_there (name_of task_j) n name read_j new.stated in
            let stated_i : name_of task_i ≡ Some name = rw (← same) (earlier_name (name_of task_i) n read_i (rw same new.form)) in
            let first = take j tasks in
            let low_first : i < length first = rw (length-take-le j tasks (omega (arith, low))) before in
            let here : get_or (map name_of first) i (Some name) ≡ Some name =
            get_or-map name_of first i no_members (Some name) low_first ∙ ap name_of (get_or-take j tasks i no_members before) ∙ stated_i in
            new.new (i, rw length-map low_first, here);
      })

  -- so the names are distinct
  pub distinct : AreDistinct (names_of tasks)
  distinct i j n there_i there_j = elim (cases_order i j) [
    | inl same ↦ same
    | inr (inl before) ↦ absurd (later_differs i j n before there_i there_j)
    | inr (inr after) ↦ absurd (later_differs j i n after there_j there_i)
  ]

-- where the rules of the tasks are kept, each may take its turn beside sensors whose names are few and differ
pub turns :
    (sensors : List (List ℕ)) (tasks : List Members) → AreDistinct sensors → length sensors ≤ 8
    → ((at : ℕ) → ¬ BreaksNames tasks at) → ((at : ℕ) → ¬ BreaksStarts tasks at)
    → ((place : ℕ) → ¬ ((place < length (counts_of tasks)) × (word_limit < sum (take (place + 1) (counts_of tasks)))))
    → 0 < length tasks → length tasks ≤ 24 → (task : ℕ) → task < length tasks → AreNames (turn_of task (roll_for sensors tasks))
turns sensors tasks differ few_sensors names starts words some few task low = record {
  sensors_differ = differ;
  tasks_differ = distinct tasks names;
  few_sensors = few_sensors;
  few_tasks = omega (arith, length-map tasks (λ t. unwrap_or (name_of t) []), few);
  some_words = λ k d at. rw (any_default (counts_of tasks) k d 0 at) (count_at tasks starts k (omega (arith, at, length-map tasks task_outputs))).0;
  few_words = λ k d at. rw (any_default (counts_of tasks) k d 0 at) (count_at tasks starts k (omega (arith, at, length-map tasks task_outputs))).1;
  words = few_words tasks some words;
  one_of_them = omega (arith, length-map tasks (λ t. unwrap_or (name_of t) []), low);
}
