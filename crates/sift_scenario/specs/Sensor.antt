-- What the tables of `sensor` say, and their rules.
use Rattle.std.specs.Prelude.{codes, ℕ, ◌≡◌, List, [], ◌∷◌, map, Option, None, unwrap_or}
use Rattle.toml.specs.Data.{Data, Members, get_member}
use Rattle.sift_base.specs.Layout.{sensor_limit}
use Rattle.sift_mission.specs.PartsFit.{sensed_limit}
use Rattle.sift_document.specs.Document.{IsTableOf, read_at, tables_in, word_array}
use Rattle.sift_document.specs.Rules.{HoldsOf, BreaksEntries, Rule, rule}
use Rattle.sift_scenario.specs.Task.{names_of, BreaksNames}

-- ---- what they say

-- the words of a sensor: an array of 1 to 1,000 word values
abbrev pub words_of : Members → Option (List ℕ)
words_of sensor = read_at (word_array 1 sensed_limit) (codes "words") sensor

-- ---- their rules

-- the rules of the sensors in the value of `sensor`
abbrev pub sensor_rules : Option Data → List Rule
sensor_rules value =
    -- `sensor` is there, and is no array of at most 8 entries, or has an entry that is no table or has an unknown key
    rule 15 (BreaksEntries 0 sensor_limit (λ place. IsTableOf (codes "name" ∷ codes "words" ∷ [])) value)
    ∷ rule 16 (BreaksNames (tables_in value))
    -- a sensor's words are missing, or are no array of 1 to 1,000 word values
    ∷ rule 17 (λ place. HoldsOf (tables_in value) place (λ sensor. words_of sensor ≡ None))
    ∷ []

-- ---- the sensors

-- the names of the sensors of a document
abbrev pub sensor_names : Members → List (List ℕ)
sensor_names document = names_of (tables_in (get_member (codes "sensor") document))

-- the words of each of them
abbrev pub sensor_words : Members → List (List ℕ)
sensor_words document = map (λ sensor. unwrap_or (words_of sensor) []) (tables_in (get_member (codes "sensor") document))
