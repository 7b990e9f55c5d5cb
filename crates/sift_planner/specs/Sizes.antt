-- Plans for the configurations of all sizes.
use Rattle.std.specs.Prelude.{◌≡◌, ℕ, ◌+◌, ◌<◌, ◌≤◌, List, [], length, slice_index_or}
use Rattle.sift_base.specs.Layout.{least_units}
use Rattle.sift_base.specs.Shapes.{AllShapes}
use Rattle.sift_table.specs.Schedule.{Schedule}
use Rattle.sift_planner.specs.declared.planning.NoRoomAt.{NoRoomAt}
use Rattle.sift_planner.specs.Plans.{ArePlannable, HasNoRoom, IsPlan, wanted}

-- the table at a place, and an empty one past the list's end
abbrev pub table_at : List Schedule → ℕ → Schedule
table_at tables i = slice_index_or tables i (record { size = 0; period = 0; run = []; poll = []; at = []; shed = [] })

-- a plan for each size of a configuration, from the least to that of all units
pub record ArePlans (shapes : AllShapes) (units period copies : ℕ) (tables : List Schedule) : Type 0 where
  pub count : length tables + least_units ≡ units + 1
  pub each : (i : ℕ) → i < length tables → IsPlan shapes (wanted (least_units + i) period copies) (table_at tables i)

-- each smaller size has a plan, and for this one there is no room for the task
pub record IsFirstWithoutRoom (shapes : AllShapes) (units period copies : ℕ) (none : NoRoomAt) : Type 0 where
  pub from : least_units ≤ none.size
  pub to : none.size ≤ units
  pub smaller : (s : ℕ) → least_units ≤ s → s < none.size → (table : Schedule) × IsPlan shapes (wanted s period copies) table
  pub no_room : HasNoRoom shapes (wanted none.size period copies) none.task

-- ---- laws

-- there are plans for all sizes in one way at most
abbrev pub OnePlanEach : Type 0
OnePlanEach =
    (shapes : AllShapes) (units period copies : ℕ) (some others : List Schedule) → ArePlannable shapes
    → ArePlans shapes units period copies some → ArePlans shapes units period copies others → some ≡ others

-- where there is no room for a task at a size there are no plans for all, and no other such size and task
abbrev pub OneSizeWithoutRoom : Type 0
OneSizeWithoutRoom =
    (shapes : AllShapes) (units period copies : ℕ) (none : NoRoomAt) → ArePlannable shapes → IsFirstWithoutRoom shapes units period copies none
    → ((tables : List Schedule) → ¬ ArePlans shapes units period copies tables)
    × ((other : NoRoomAt) → IsFirstWithoutRoom shapes units period copies other → (other.size ≡ none.size) × (other.task ≡ none.task))
