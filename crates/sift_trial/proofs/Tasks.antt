-- The tasks of a drawn document: what their tables say, and the rules that they keep.
use Rattle.std.proofs.Common.{◌≡◌, ◌≢◌, ◌<◌, ◌≤◌, ◌+◌, ℕ, List, [], ◌∷◌, length, map, take, Some, None, refl, sym, ap, subst, ◌∙◌, arith}
use Rattle.std.proofs.lemmas.List.Elements.{All-from_recursion}
use Rattle.std.proofs.lemmas.List.FromFn.{length-map-range_with_len, take-map-range_with_len}
use Rattle.std.specs.List.{Contains, range_with_len, sum}
use Rattle.std.specs.Prelude.{codes}
use Rattle.toml.specs.Data.{Data, Members, member, no_members, string}
use Rattle.sift_base.specs.Draw.{after, draw_at}
use Rattle.sift_base.specs.Layout.{word_limit}
use Rattle.sift_base.specs.Word.{word_count}
use Rattle.sift_base.specs.Name.{IsName}
use Rattle.sift_gen.specs.Tasks.{task_name, text_by}
use Rattle.sift_gen.specs.Scenario.{array_of, number, pattern_from, task_place, task_tables}
use Rattle.sift_document.specs.Document.{HasOnlyKeys, IsTableOf, entries_of, keys_of, members_of}
use Rattle.sift_document.specs.Rules.{HoldsOf}
use Rattle.sift_scenario.specs.Task.{AreForms, Form, HasForm, counts_of, start_words, task_outputs, text, BreaksNames}
use Rattle.sift_trial.proofs.DrawnRoll.{words_sum}
use Rattle.sift_trial.proofs.Ranges.{made_alike, made_of, matched, nowhere}
use Rattle.sift_trial.proofs.Tables.{entries_kept, members_are, names_kept, tables_long}
use Rattle.sift_trial.proofs.Values.{draw_below, word_read}

-- the keys that a task may have
abbrev task_keys : List (List ℕ)
task_keys = codes "name" ∷ codes "start" ∷ codes "text" ∷ codes "linear" ∷ []

-- ---- one task

-- the text of task t, whose draws are those from x
abbrev pub drawn_text : (t sensors x : ℕ) → List ℕ
drawn_text t sensors x = text_by (pattern_from t x) t sensors (after x 2)

-- the entries of the table of task t, whose draws are those from x
abbrev pub drawn_entries : (t sensors x : ℕ) → Members
drawn_entries t sensors x =
    member (codes "name") (string (task_name t)) (member (codes "start") (array_of (number (draw_at x 0 word_count) ∷ []))
    (member (codes "text") (string (drawn_text t sensors x)) no_members))

-- its start word is the first draw
pub started : (t sensors x : ℕ) → start_words (drawn_entries t sensors x) ≡ Some (draw_at x 0 word_count ∷ [])
started t sensors x = rw (word_read (draw_at x 0 word_count) (draw_below x 0 word_count (omega arith))) refl

-- so it has one output word
pub one_output : (t sensors x : ℕ) → task_outputs (drawn_entries t sensors x) ≡ 1
one_output t sensors x = rw (started t sensors x) refl

-- its form is its text
pub formed : (t sensors x : ℕ) → HasForm (drawn_entries t sensors x) (text (drawn_text t sensors x))
formed t sensors x = (refl, refl)

-- its keys are known
keys_known : (t sensors x : ℕ) → HasOnlyKeys task_keys (drawn_entries t sensors x)
keys_known t sensors x = All-from_recursion (Contains task_keys) (keys_of (drawn_entries t sensors x)) ((0, omega arith, refl), ((1, omega arith, refl), ((2, omega arith, refl), tt)))

-- ---- all of them

module _ (tasks sensors x : ℕ) where
  -- the entries of each task's table
  abbrev pub entries_at : ℕ → Members
  entries_at t = drawn_entries t sensors (task_place t x)

  -- and its text
  abbrev pub text_at : ℕ → List ℕ
  text_at t = drawn_text t sensors (task_place t x)

  -- the value of `task`, and the members of its tables
  abbrev pub tasks_value : Data
  tasks_value = array_of (task_tables tasks sensors x)

  abbrev pub task_members : List Members
  task_members = map members_of (entries_of (Some tasks_value))

  -- the document's tasks have these entries, one table after the other
  pub tasks_are : task_members ≡ map entries_at (range_with_len 0 tasks)
  tasks_are = members_are entries_at tasks

  -- each has one output word
  pub counts_are : counts_of task_members ≡ map (λ t. 1) (range_with_len 0 tasks)
  counts_are =
      ap counts_of tasks_are ∙ made_of task_outputs entries_at (range_with_len 0 tasks)
      ∙ made_alike (λ t. task_outputs (entries_at t)) (λ t. 1) 0 tasks (λ t from to. one_output t sensors (task_place t x))

  -- the forms of the tasks are their texts
  pub forms_are : AreForms task_members (map (λ t. text (text_at t)) (range_with_len 0 tasks))
  forms_are =
      subst (λ (ms : List Members). AreForms ms (map (λ t. text (text_at t)) (range_with_len 0 tasks))) (sym tasks_are)
      (matched (λ place task form. HasForm task form) entries_at (λ t. text (text_at t)) tasks (λ t low. formed t sensors (task_place t x)))

  -- with a task there are so many output words as tasks
  words_few :
      tasks ≤ 12 → (place : ℕ)
      → ¬ ((place < length {A = ℕ} (map (λ t. 1) (range_with_len 0 tasks))) × (word_limit < sum (take (place + 1) (map (λ t. 1) (range_with_len 0 tasks)))))
  words_few few place broken =
      let long = length-map-range_with_len {X = ℕ} (λ t. 1) 0 tasks in
      let so_far : sum (take (place + 1) (map (λ t. 1) (range_with_len 0 tasks))) ≡ place + 1 =
      ap sum (take-map-range_with_len {X = ℕ} (λ t. 1) 0 tasks (place + 1) (omega (arith, broken.0, long))) ∙ words_sum (place + 1) in
      omega (arith, broken.0, broken.1, long, so_far, few)

  -- each has a name that is new
  pub names_right :
      ((t : ℕ) → t < tasks → IsName (task_name t)) → ((i k : ℕ) → i < k → k < tasks → task_name i ≢ task_name k)
      → (place : ℕ) → ¬ BreaksNames task_members place
  names_right named differ = rw tasks_are (names_kept entries_at task_name tasks (λ t. refl) named differ)

  -- start words
  pub starts_right : (place : ℕ) → ¬ HoldsOf task_members place (λ task. start_words task ≡ None)
  starts_right =
      rw tasks_are (nowhere entries_at tasks (λ t task. start_words task ≡ None) (λ t low none. cc (started t sensors (task_place t x), none)))

  -- few output words in all
  pub words_right :
      tasks ≤ 12 → (place : ℕ) → ¬ ((place < length (counts_of task_members)) × (word_limit < sum (take (place + 1) (counts_of task_members))))
  words_right few = rw counts_are (words_few few)

  -- and a form
  pub forms_right : (place : ℕ) → ¬ HoldsOf task_members place (λ task. (form : Form) → ¬ HasForm task form)
  forms_right =
      rw tasks_are (nowhere entries_at tasks (λ t task. (form : Form) → ¬ HasForm task form)
      (λ t low none. none (text (text_at t)) (formed t sensors (task_place t x))))

  -- there are so many tables with known keys
  pub tasks_long : length (entries_of (Some tasks_value)) ≡ tasks
  tasks_long = tables_long entries_at tasks

  -- each entry of `task` is a table whose keys are known
  pub all_known : (place : ℕ) → ¬ HoldsOf (entries_of (Some tasks_value)) place (λ entry. ¬ IsTableOf task_keys entry)
  all_known =
      entries_kept entries_at tasks (λ t entry. IsTableOf task_keys entry)
      (λ t low. let y = task_place t x in (drawn_entries t sensors y, refl, keys_known t sensors y))
