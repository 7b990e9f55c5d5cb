-- Names of proofs for what specs/ says in its place: keys, values, rules and lists of rules.
use Rattle.std.specs.Prelude.{codes, ℕ, ◌≡◌, List, [], ◌∷◌, None, unwrap_or}
use Rattle.std.specs.List.{flat_map}
use Rattle.toml.specs.Data.{Members, get_member}
use Rattle.sift_document.specs.Rules.{AreMatched, HoldsOf, Rule}
use Rattle.sift_lang.specs.Tree.{TaskTree}
use Rattle.sift_parse.specs.Roll.{Roll}
use Rattle.sift_sections.specs.Clock.{clock_rules}
use Rattle.sift_sections.specs.Fault.{fault_rules}
use Rattle.sift_sections.specs.Table.{table_rules}
use Rattle.sift_sections.specs.laws.Named.{later_table_rules}
use Rattle.sift_scenario.specs.Program.{IsTreeOf, roll_for, turn_of}
use Rattle.sift_scenario.specs.Refusal.{IsFirstRefused}
use Rattle.sift_scenario.specs.declared.mission.Refused.{Refused}
use Rattle.sift_scenario.specs.Root.{root_rules, version_of}
use Rattle.sift_scenario.specs.Sensor.{sensor_rules}
use Rattle.sift_scenario.specs.Task.{AreForms, Form, HasForm, start_words, task_rules}

-- ---- keys and values

-- the keys of sensors
abbrev pub sensor_keys : List (List ℕ)
sensor_keys = codes "name" ∷ codes "words" ∷ []

-- and of tasks
abbrev pub task_keys : List (List ℕ)
task_keys = codes "name" ∷ codes "start" ∷ codes "text" ∷ codes "linear" ∷ []

-- the start words of the tasks, in their order
abbrev pub all_starts : List Members → List ℕ
all_starts tasks = flat_map (λ task. unwrap_or (start_words task) []) tasks

-- the trees of tasks of these forms, in their order
abbrev pub AreTreesOf : Roll → List Form → List TaskTree → Type 0
AreTreesOf roll forms trees = AreMatched (λ task form tree. IsTreeOf (turn_of task roll) form tree) forms trees

-- the tasks in these tables have forms, of which one is refused, beside sensors of these names
abbrev pub TasksAreRefused : (sensors : List (List ℕ)) → List Members → Refused → Type 0
TasksAreRefused sensors tasks refused = (forms : List Form) × AreForms tasks forms × IsFirstRefused (roll_for sensors tasks) forms refused

-- ---- rules of tasks

-- the start words of the task at a place aren't read
abbrev pub BreaksStarts : List Members → ℕ → Type 0
BreaksStarts tasks place = HoldsOf tasks place (λ task. start_words task ≡ None)

-- it has no form
abbrev pub BreaksForms : List Members → ℕ → Type 0
BreaksForms tasks place = HoldsOf tasks place (λ task. (form : Form) → ¬ HasForm task form)

-- ---- lists of rules

-- the rules of a document of so many units, by what they speak of
abbrev pub themes_for : (units : ℕ) → Members → List (List Rule)
themes_for units document =
    root_rules document
    ∷ clock_rules units (get_member (codes "clock") document)
    ∷ sensor_rules (get_member (codes "sensor") document)
    ∷ task_rules document
    ∷ table_rules (unwrap_or (version_of document) 0) units (get_member (codes "table") document)
    ∷ fault_rules (get_member (codes "fault") document)
    ∷ later_table_rules (get_member (codes "table") document)
    ∷ []
