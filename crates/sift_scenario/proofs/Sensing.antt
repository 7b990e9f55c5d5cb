-- The names and the words of a document's sensors.
use Rattle.std.proofs.Common.{◌≡◌, ◌≢◌, ◌≤◌, ◌<◌, inl, ℕ, List, [], length, get_or, Option, Some, None, refl, sym, ap, ◌∙◌, arith}
use Rattle.std.proofs.lemmas.List.{get_or-map, length-map}
use Rattle.std.proofs.lemmas.Option.{slice_get-get_or}
use Rattle.std.specs.List.{All}
use Rattle.std.specs.Prelude.{codes, option_and_then, unwrap_or}
use Rattle.toml.specs.Data.{Data, Members, get_member, no_members}
use Rattle.sift_base.specs.Layout.{sensor_limit}
use Rattle.sift_document.specs.Document.{IsArrayOf, IsTableOf, entries_of, members_of, word_array, word_value, tables_in}
use Rattle.sift_document.specs.Rules.{AreKept, BreaksEntries, IsKept, rule}
use Rattle.sift_document.specs.laws.Arrays.{array_entries}
use Rattle.sift_document.specs.laws.ReadEntries.{array_between-long}
use Rattle.sift_parse.specs.Outcome.{AreDistinct}
use Rattle.sift_mission.specs.PartsFit.{HasWords, sensed_limit}
use Rattle.sift_sections.specs.laws.Decided.{stable}
use Rattle.sift_sections.specs.laws.KnownEntries.{known_array}
use Rattle.sift_scenario.specs.Mission.{IsLawful}
use Rattle.sift_scenario.specs.Root.{units_of}
use Rattle.sift_scenario.specs.Sensor.{sensor_names, sensor_rules, sensor_words, words_of}
use Rattle.sift_scenario.specs.Task.{name_of}
use Rattle.sift_scenario.proofs.Rolls.{distinct}
use Rattle.sift_scenario.proofs.Themes.{kept_themes}
use Rattle.sift_scenario.proofs.Named.{sensor_keys}

-- there are as many words as names
pub as_many_sensors : (document : Members) → length (sensor_words document) ≡ length (sensor_names document)
as_many_sensors document =
    let sensors = tables_in (get_member (codes "sensor") document) in
    length-map sensors (λ sensor. unwrap_or (words_of sensor) []) ∙ sym (length-map sensors (λ sensor. unwrap_or (name_of sensor) []))

-- there are few sensors where the rule is kept
few_entries : (value : Option Data) → IsKept (rule 15 (BreaksEntries 0 sensor_limit (λ at. IsTableOf sensor_keys) value)) → length (entries_of value) ≤ 8
few_entries None kept = omega arith
few_entries (Some value) kept =
    let right : IsArrayOf 0 sensor_limit value = stable (known_array 0 sensor_limit value) (λ other. kept 0 (inl (refl, other))) in
    let same = array_entries value right.items right.there in
    omega (arith, ap length same, right.few)

-- a word at least, and no more than may be, are read of a value
read_words : (d : Option Data) (ws : List ℕ) → option_and_then (word_array 1 sensed_limit) d ≡ Some ws → HasWords ws
read_words None ws is = cc
read_words (Some d) ws is = array_between-long 1 sensed_limit word_value d ws is

-- what is there is right
some_words : (words : Option (List ℕ)) → words ≢ None → ((ws : List ℕ) → words ≡ Some ws → HasWords ws) → HasWords (unwrap_or words [])
some_words None some right = absurd (some refl)
some_words (Some ws) some right = right ws refl

module _ (document : Members) (units : ℕ) (is : units_of document ≡ Some units) (lawful : IsLawful document) where
  -- the rules of the sensors are kept
  sensors_kept : AreKept (sensor_rules (get_member (codes "sensor") document))
  sensors_kept = (kept_themes document units is lawful).1.1.0

  -- their names differ
  pub sensors_differ : AreDistinct (sensor_names document)
  sensors_differ = distinct (tables_in (get_member (codes "sensor") document)) sensors_kept.1.0

  -- they are few
  pub few_sensors : length (sensor_names document) ≤ 8
  few_sensors =
      let sensors = tables_in (get_member (codes "sensor") document) in
      omega (
        arith,
        length-map sensors (λ sensor. unwrap_or (name_of sensor) []),
        length-map (entries_of (get_member (codes "sensor") document)) members_of,
        few_entries (get_member (codes "sensor") document) sensors_kept.0,
      )

  -- each sensor has words, and no more than may be
  pub words_fit : All HasWords (sensor_words document)
  words_fit k d low =
      let sensors = tables_in (get_member (codes "sensor") document) in
      let within : k < length sensors = omega (arith, low, length-map sensors (λ sensor. unwrap_or (words_of sensor) [])) in
      let sensor = get_or sensors k no_members in
      let there = slice_get-get_or sensors k no_members within in
      let some : words_of sensor ≢ None = λ none. sensors_kept.1.1.0 k (record { entry = sensor; there = there; holds = none }) in
      rw (get_or-map (λ s. unwrap_or (words_of s) []) sensors k no_members d within) (some_words (words_of sensor) some (read_words (get_member (codes "words") sensor)))
