-- The sensors of a drawn document: what their tables say, and the rules that they keep.
use Rattle.std.proofs.Common.{◌≡◌, ◌≢◌, ◌<◌, ◌≤◌, ◌*◌, ℕ, List, [], ◌∷◌, map, Some, None, inl, inr, refl, arith}
use Rattle.std.proofs.lemmas.List.Elements.{All-from_recursion}
use Rattle.std.specs.List.{Contains, range_with_len}
use Rattle.std.specs.Prelude.{codes}
use Rattle.toml.specs.Data.{Data, Members, member, no_members, string}
use Rattle.toml.specs.View.{items_of}
use Rattle.sift_base.specs.Draw.{after, draw_at}
use Rattle.sift_base.specs.Word.{word_count}
use Rattle.sift_base.specs.Name.{IsName}
use Rattle.sift_gen.specs.Tasks.{sensor_name}
use Rattle.sift_gen.specs.Scenario.{array_of, number, sensor_tables, sensor_words, words_each}
use Rattle.sift_scenario.specs.Sensor.{sensor_rules, words_of}
use Rattle.sift_document.specs.Document.{HasOnlyKeys, each_read, keys_of, list_of, word_value, tables_in, IsTableOf}
use Rattle.sift_document.specs.Rules.{AreKept}
use Rattle.sift_trial.proofs.Ranges.{nowhere}
use Rattle.sift_trial.proofs.Tables.{entries_kept, is_array, members_are, names_kept}
use Rattle.sift_trial.proofs.Values.{draw_below, word_read}

-- the keys that a sensor may have
abbrev sensor_keys : List (List ℕ)
sensor_keys = codes "name" ∷ codes "words" ∷ []

-- ---- one sensor

-- the entries of sensor k's table, whose words are the draws from x
abbrev pub sensor_entries : (k x : ℕ) → Members
sensor_entries k x = member (codes "name") (string (sensor_name k)) (member (codes "words") (array_of (sensor_words x)) no_members)

-- numbers of 16 bits are read as words
words_read : (f : ℕ → ℕ) → ((i : ℕ) → f i < 65536) → (ks : List ℕ)
    → each_read word_value (list_of (items_of (map (λ i. number (f i)) ks))) ≡ Some (map f ks)
words_read f low [] = refl
words_read f low (k ∷ ks) = rw (word_read (f k) (low k), words_read f low ks) refl

-- the words of a sensor are its draws
pub sensed : (k x : ℕ) → words_of (sensor_entries k x) ≡ Some (map (λ i. draw_at x i word_count) (range_with_len 0 words_each))
unfolding sensor_words
sensed k x = rw (words_read (λ i. draw_at x i word_count) (λ i. draw_below x i word_count (omega arith)) (range_with_len 0 words_each)) refl

-- its keys are known
keys_known : (k x : ℕ) → HasOnlyKeys sensor_keys (sensor_entries k x)
keys_known k x = All-from_recursion (Contains sensor_keys) (keys_of (sensor_entries k x)) ((0, omega arith, refl), ((1, omega arith, refl), tt))

-- ---- all of them

module _ (sensors x : ℕ) where
  -- the entries of each sensor's table
  abbrev pub entries_at : ℕ → Members
  entries_at k = sensor_entries k (after x (words_each * k))

  -- the value of `sensor`
  abbrev pub sensors_value : Data
  sensors_value = array_of (sensor_tables sensors x)

  -- the document's sensors have these entries, one table after the other
  pub sensors_are : tables_in (Some sensors_value) ≡ map entries_at (range_with_len 0 sensors)
  sensors_are = members_are entries_at sensors

  -- they keep the rules of the sensors
  pub sensors_kept :
      sensors ≤ 8 → ((k : ℕ) → k < sensors → IsName (sensor_name k)) → ((i k : ℕ) → i < k → k < sensors → sensor_name i ≢ sensor_name k)
      → AreKept (sensor_rules (Some sensors_value))
  sensors_kept few formed differ = rw sensors_are (
    λ place broken. elim broken [
      | inl none ↦ none.1 (is_array entries_at sensors 0 8 (omega arith) few)
      | inr entry ↦ entries_kept entries_at sensors (λ place. IsTableOf sensor_keys)
          (λ k low. let y = after x (words_each * k) in (sensor_entries k y, refl, keys_known k y)) place entry
    ],
    (
      names_kept entries_at sensor_name sensors (λ k. refl) formed differ,
      (nowhere entries_at sensors (λ k sensor. words_of sensor ≡ None) (λ k low none. cc (sensed k (after x (words_each * k)), none)), tt),
    ),
  )
