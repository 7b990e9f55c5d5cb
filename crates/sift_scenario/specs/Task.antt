-- What the tables of `task` say, each by itself, and their rules.
use Rattle.std.specs.Prelude.{codes, ℕ, ◌≡◌, List, [], ◌∷◌, length, map, Option, Some, None, unwrap_or, ◌+◌, ◌<◌, ◌≤◌, ◌⊎◌, take, sum}
use Rattle.std.specs.List.{Contains}
use Rattle.toml.specs.Data.{Data, Members, get_member, as_str}
use Rattle.sift_base.specs.Name.{IsName}
use Rattle.sift_base.specs.Shapes.{output_limit, task_limit}
use Rattle.sift_document.specs.Document.{entries_of, members_of, read_at, word_array, IsTableOf}
use Rattle.sift_document.specs.Rules.{AreMatched, HoldsOf, OfNoEntry, Rule, rule}
use Rattle.sift_base.specs.Layout.{word_limit}

-- ---- what they say

-- the entries of `task`
abbrev pub task_entries : Members → List Data
task_entries document = entries_of (get_member (codes "task") document)

-- their tables
abbrev pub tasks_of : Members → List Members
tasks_of document = map members_of (task_entries document)

-- ---- names

-- the name of a task, or of another entry that has one, where it is a string
abbrev pub name_of : Members → Option (List ℕ)
name_of entry = read_at as_str (codes "name") entry

-- the names of entries
abbrev pub names_of : List Members → List (List ℕ)
names_of entries = map (λ entry. unwrap_or (name_of entry) []) entries

-- the name of an entry that comes after entries of these names: it is a name, and none of theirs
pub record IsNewName (earlier : List (Option (List ℕ))) (entry : Members) (name : List ℕ) : Type 0 where
  pub stated : name_of entry ≡ Some name
  pub form : IsName name
  pub new : ¬ Contains earlier (Some name)

-- ---- start words

-- a task's start words, one for each of its output words: an array of 1 to 8 word values
abbrev pub start_words : Members → Option (List ℕ)
start_words task = read_at (word_array 1 output_limit) (codes "start") task

-- how many output words a task has
abbrev pub task_outputs : Members → ℕ
task_outputs task = length (unwrap_or (start_words task) [])

-- how many output words each task has
abbrev pub counts_of : List Members → List ℕ
counts_of tasks = map task_outputs tasks

-- ---- what a task runs

-- a linear rule, or a text
pub data Form : Type 0 where
  linear : (factor addend : ℕ) → Form
  text : List ℕ → Form

-- the task has this form: a linear rule and no text, and one output word; or a text and no linear rule
abbrev pub HasForm : Members → Form → Type 0
HasForm task (linear factor addend) =
    (read_at (word_array 2 2) (codes "linear") task ≡ Some (factor ∷ addend ∷ []))
    × (task_outputs task ≡ 1) × (get_member (codes "text") task ≡ None)
HasForm task (text bytes) = (read_at as_str (codes "text") task ≡ Some bytes) × (get_member (codes "linear") task ≡ None)

-- these are the forms of the tasks
abbrev pub AreForms : List Members → List Form → Type 0
AreForms tasks forms = AreMatched (λ place task form. HasForm task form) tasks forms

-- ---- their rules

-- `task` is missing, is no array of 1 to 24 entries, or has an entry that is no table or has an unknown key
abbrev pub BreaksTasks : Members → ℕ → Type 0
BreaksTasks document place =
    OfNoEntry (¬ ((0 < length (task_entries document)) × (length (task_entries document) ≤ task_limit))) place
    ⊎ HoldsOf (task_entries document) place (λ entry. ¬ IsTableOf (codes "name" ∷ codes "start" ∷ codes "text" ∷ codes "linear" ∷ []) entry)

-- a name is missing, is no name, or is an earlier entry's
abbrev pub BreaksNames : List Members → ℕ → Type 0
BreaksNames entries place =
    HoldsOf entries place (λ entry. (name : List ℕ) → ¬ IsNewName (map name_of (take place entries)) entry name)

-- the rules of the tasks
abbrev pub task_rules : Members → List Rule
task_rules document =
    rule 18 (BreaksTasks document)
    ∷ rule 19 (BreaksNames (tasks_of document))
    -- a task's start words are missing, or are no array of 1 to 8 word values
    ∷ rule 20 (λ place. HoldsOf (tasks_of document) place (λ task. start_words task ≡ None))
    -- with a task there are more than 64 output words
    ∷ rule 21 (λ place. (place < length (counts_of (tasks_of document))) × (word_limit < sum (take (place + 1) (counts_of (tasks_of document)))))
    -- a task has neither just a text, which is a string, nor just a linear rule, which is an array of two word values, and one output word
    ∷ rule 22 (λ place. HoldsOf (tasks_of document) place (λ task. (form : Form) → ¬ HasForm task form))
    ∷ []
