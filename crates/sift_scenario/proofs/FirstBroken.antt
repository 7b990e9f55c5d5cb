-- Each rule of a document is kept, or broken at a first place; so all are kept, or one is the first that is broken.
use Rattle.std.proofs.Common.{◌≡◌, ◌<◌, ◌+◌, ◌⊎◌, inl, inr, ℕ, suc, List, [], ◌∷◌, length, map, take, sum, Option, None, refl, arith}
use Rattle.std.proofs.lemmas.Option.{slice_get_within}
use Rattle.std.specs.Prelude.{unwrap_or, codes}
use Rattle.toml.specs.Data.{Data, Members, get_member}
use Rattle.sift_base.specs.Layout.{sensor_limit, word_limit}
use Rattle.sift_base.specs.Shapes.{task_limit}
use Rattle.sift_document.specs.Document.{tables_in, IsTableOf}
use Rattle.sift_document.specs.Rules.{AreKept, BreaksFirst, Rule, rule}
use Rattle.sift_sections.specs.laws.Decided.{Decided, at_most, both, either, first_place, holds, negated, nothing, same_number}
use Rattle.sift_sections.specs.laws.KnownEntries.{known_keys, known_table}
use Rattle.sift_sections.proofs.lemmas.RulesDecided.{AreDecided, IsDecided, clock_known, decided_all, fault_known, later_table_known, of_array, of_each, of_none, table_known}
use Rattle.sift_scenario.specs.Mission.{rules_of}
use Rattle.sift_scenario.specs.Laws.{RulesAreKeptOrBroken}
use Rattle.sift_scenario.specs.Root.{frames_of, period_of, root_keys, root_rules, units_of, version_of}
use Rattle.sift_scenario.specs.Sensor.{sensor_rules, words_of}
use Rattle.sift_scenario.specs.Task.{HasForm, IsNewName, counts_of, name_of, start_words, task_entries, tasks_of, BreaksNames, BreaksTasks, task_rules}
use Rattle.sift_scenario.proofs.Known.{form_known, new_name_of}
use Rattle.sift_scenario.proofs.Named.{sensor_keys, task_keys, themes_for}

-- so all are kept, or one is the first that is broken
kept_or_first : (rules : List Rule) → AreDecided rules → AreKept rules ⊎ ((number : ℕ) × (place : ℕ) × BreaksFirst rules number place)
kept_or_first [] known = inl tt
kept_or_first (rule ∷ rest) (inl at, known) = inr (rule.number, at.0, inl (refl, at.1))
kept_or_first (rule ∷ rest) (inr kept, known) = elim (kept_or_first rest known) [
  | inl all ↦ inl (kept, all)
  | inr broken ↦ inr (broken.0, broken.1, inr (kept, broken.2))
]

-- none of a kind of things, where it is known whether there is one
none_of : {A : Type 0} (P : A → Type 0) → Decided ((x : A) × P x) → Decided ((x : A) → P x → ⊥)
none_of P (inl h) = inr (λ none. none h.0 h.1)
none_of P (inr none) = inl (λ x h. none (x, h))

-- ---- the rules

root_known : (d : Members) → AreDecided (root_rules d)
root_known d = (
  of_none _ (negated (known_keys root_keys d)),
  (of_none _ (nothing (units_of d)), (of_none _ (nothing (frames_of d)), (of_none _ (nothing (version_of d)), (of_none _ (nothing (period_of d)), tt)))),
)

-- names are missing, are no names, or an earlier entry's
names_known : (number : ℕ) (entries : List Members) → IsDecided (rule number (BreaksNames entries))
names_known number entries = of_each entries (λ place entry. (name : List ℕ) → IsNewName (map name_of (take place entries)) entry name → ⊥)
    (λ place entry. none_of (λ name. IsNewName (map name_of (take place entries)) entry name) (new_name_of (map name_of (take place entries)) entry (name_of entry) refl))

sensor_known : (value : Option Data) → AreDecided (sensor_rules value)
sensor_known value = (
  of_array 0 sensor_limit (λ place. IsTableOf sensor_keys) value (λ place entry. known_table sensor_keys entry),
  (
    names_known 16 (tables_in value),
    (of_each (tables_in value) (λ place sensor. words_of sensor ≡ None) (λ place sensor. nothing (words_of sensor)), tt),
  ),
)

words_known : (counts : List ℕ) → IsDecided (rule 21 (λ place. (place < length counts) × (word_limit < sum (take (place + 1) counts))))
words_known counts = first_place (λ place. (place < length counts) × (word_limit < sum (take (place + 1) counts)))
    (λ at. both (at_most (suc at) (length counts)) (at_most (suc word_limit) (sum (take (at + 1) counts)))) (length counts) (λ at broken. broken.0)

tasks_known : (d : Members) → IsDecided (rule 18 (BreaksTasks d))
tasks_known d = first_place (BreaksTasks d)
    (λ at. either (both (same_number at 0) (negated (both (at_most 1 (length (task_entries d))) (at_most (length (task_entries d)) task_limit))))
    (holds (task_entries d) at _ (λ entry. negated (known_table task_keys entry))))
    (length (task_entries d) + 1)
    (λ at broken. elim broken [
      | inl whole ↦ omega (arith, whole.0)
      | inr one ↦ let low = slice_get_within (task_entries d) at one.entry one.there in omega (arith, low)
    ])

task_known : (d : Members) → AreDecided (task_rules d)
task_known d = (
  tasks_known d,
  (
    names_known 19 (tasks_of d),
    (
      of_each (tasks_of d) (λ place task. start_words task ≡ None) (λ place task. nothing (start_words task)),
      (
        words_known (counts_of (tasks_of d)),
        (of_each (tasks_of d) (λ place task. (form : _) → HasForm task form → ⊥) (λ place task. none_of (HasForm task) (form_known task)), tt),
      ),
    ),
  ),
)

-- all rules are kept, or one is the first that is broken
pub kept_or_broken : RulesAreKeptOrBroken
kept_or_broken d = kept_or_first (rules_of d)
    (decided_all (themes_for (unwrap_or (units_of d) 0) d) (
      root_known d,
      (
        clock_known (unwrap_or (units_of d) 0) (get_member (codes "clock") d),
        (
          sensor_known (get_member (codes "sensor") d),
          (
            task_known d,
            (
              table_known (unwrap_or (version_of d) 0) (unwrap_or (units_of d) 0) (get_member (codes "table") d),
              (fault_known (get_member (codes "fault") d), (later_table_known (get_member (codes "table") d), tt)),
            ),
          ),
        ),
      ),
    ))
