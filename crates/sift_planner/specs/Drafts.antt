-- What a draft holds: the first rows of a table, and which positions they use. No public clause cites this module.
use Rattle.std.specs.Prelude.{◌≡◌, ℕ, ◌<◌, ◌≤◌, List, [], ◌∷◌, ◌++◌, length, nat_lt, slice_index}
use Rattle.sift_base.specs.Layout.{least_units}
use Rattle.sift_base.specs.Units.{unit_limit}
use Rattle.sift_table.specs.Schedule.{Schedule, schedule_of, shortest_period}
use Rattle.sift_planner.specs.Plans.{longest_period}
use Rattle.sift_planner.specs.Earliest.{is_used}
use Rattle.sift_planner.specs.declared.draft.Draft.{Draft}

-- the table so far
abbrev pub drafted : Draft → Schedule
drafted draft = schedule_of draft.table

-- how many rows it has
abbrev pub rows_in : Draft → ℕ
rows_in draft = length (drafted draft).run

-- a table with one row more
abbrev pub with_row : Schedule → (run poll : ℕ) → (at : List ℕ) → Schedule
with_row table run poll at = record table { run = table.run ++ run ∷ []; poll = table.poll ++ poll ∷ []; at = table.at ++ at ∷ [] }

-- of each subframe this tells how many positions the first rows of the table use in it, and they are its first
pub record TellsUsed (table : Schedule) (count : ℕ) (used : List ℕ) : Type 0 where
  pub each : length used ≡ longest_period
  pub within : (subframe : ℕ) → subframe < longest_period → slice_index used subframe ≤ table.size
  pub first : (subframe position : ℕ) → subframe < longest_period → is_used table count subframe position ≡ nat_lt position (slice_index used subframe)

-- a draft within the limits, whose rows are whole, and which tells the positions that they use
pub record IsKept (draft : Draft) : Type 0 where
  pub enough_units : least_units ≤ (drafted draft).size
  pub few_units : (drafted draft).size ≤ unit_limit
  pub long : shortest_period ≤ (drafted draft).period
  pub short : (drafted draft).period ≤ longest_period
  pub some : 0 < draft.executors
  pub few : draft.executors ≤ (drafted draft).size
  pub polls : length (drafted draft).poll ≡ rows_in draft
  pub positions : length (drafted draft).at ≡ rows_in draft
  pub used : TellsUsed (drafted draft) (rows_in draft) draft.used
