use Rattle.std.proofs.Common.{◌≡◌, ◌<◌, ℕ, None, Some, map, take}
use Rattle.toml.specs.View.{table_view}
use Rattle.sift_document.specs.Rules.{HoldsOf}
use Rattle.sift_scenario.specs.Sensor.{words_of}
use Rattle.sift_scenario.proofs.entries.sensed_words.Given as goal

-- the words of the sensors so far, none of which breaks the rule
abbrev pub invariant-loop-place : goal.invariant-loop-place
invariant-loop-place l =
    (map (λ list. Some list.items) l.words.items ≡ take l.place (map (λ sensor. words_of (table_view sensor.now)) l.tables))
    × ((at : ℕ) → at < l.place → ¬ HoldsOf (map (λ sensor. table_view sensor.now) l.tables) at (λ sensor. words_of sensor ≡ None))
