-- The start words of tasks, as they are read and as the tables state them.
use Rattle.std.proofs.Common.{◌≡◌, ℕ, List, [], length, map, Option, Some, sym, ap, ◌∙◌}
use Rattle.std.proofs.lemmas.List.{length-map}
use Rattle.std.proofs.lemmas.List.Folds.{flat_map-map}
use Rattle.std.proofs.lemmas.List.Concat.{length-flat_map}
use Rattle.std.proofs.lemmas.List.Sums.{sum-map}
use Rattle.std.specs.List.{flat_map, sum}
use Rattle.std.specs.Prelude.{unwrap_or}
use Rattle.toml.specs.Data.{Members}
use Rattle.sift_document.specs.laws.Places.{map_map}
use Rattle.sift_scenario.specs.Task.{counts_of, name_of, names_of, start_words, task_outputs}
use Rattle.sift_scenario.proofs.Named.{all_starts}

module _ {B : Type 0} (words : B → List ℕ) (tasks : List Members) (starts : List B) (read : map (λ ws. Some (words ws)) starts ≡ map start_words tasks) where
  -- there are as many
  pub as_many : length starts ≡ length tasks
  as_many = sym (length-map starts (λ ws. Some (words ws))) ∙ ap length read ∙ length-map tasks start_words

  -- each task has as many words as start words
  pub counts_from : map (λ ws. length (words ws)) starts ≡ counts_of tasks
  counts_from =
      map_map (λ o. length (unwrap_or o [])) (λ ws. Some (words ws)) starts
      ∙ ap (map (λ o. length (unwrap_or o []))) read
      ∙ sym (map_map (λ o. length (unwrap_or o [])) start_words tasks)

  -- all of them together are the start words of the tasks
  pub all_starts_from : flat_map words starts ≡ all_starts tasks
  all_starts_from =
      sym (flat_map-map (λ o. unwrap_or o []) (λ ws. Some (words ws)) starts)
      ∙ ap (flat_map (λ o. unwrap_or o [])) read
      ∙ flat_map-map (λ o. unwrap_or o []) start_words tasks

-- the names that were read of tasks are theirs
pub names_from :
    {C : Type 0} (bytes : C → List ℕ) (tasks : List Members) (names : List C)
    → map (λ name. Some (bytes name)) names ≡ map name_of tasks
    → map bytes names ≡ names_of tasks
names_from bytes tasks names named =
    map_map (λ o. unwrap_or o []) (λ name. Some (bytes name)) names
    ∙ ap (map (λ o. unwrap_or o [])) named
    ∙ sym (map_map (λ o. unwrap_or o []) name_of tasks)

-- there are as many start words as output words
pub starts_long : (tasks : List Members) → length (all_starts tasks) ≡ sum (counts_of tasks)
starts_long tasks = length-flat_map (λ task. unwrap_or (start_words task) []) tasks ∙ sym (sum-map task_outputs tasks)

-- what was read of each entry is what they state
pub unwrapped :
    {C X : Type 0} (shown : C → X) (read : Members → Option X) (missing : X) (entries : List Members) (held : List C)
    → map (λ h. Some (shown h)) held ≡ map read entries → map shown held ≡ map (λ entry. unwrap_or (read entry) missing) entries
unwrapped shown read missing entries held so =
    map_map (λ o. unwrap_or o missing) (λ h. Some (shown h)) held
    ∙ ap (map (λ o. unwrap_or o missing)) so
    ∙ sym (map_map (λ o. unwrap_or o missing) read entries)
