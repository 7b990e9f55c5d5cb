use Rattle.std.proofs.Common.{◌≡◌, ◌+◌, ◌<◌, ℕ, length, map}
use Rattle.sift_base.specs.Layout.{least_units}
use Rattle.sift_base.specs.Shapes.{shapes_of}
use Rattle.sift_table.specs.Schedule.{schedule_of}
use Rattle.sift_planner.specs.Plans.{IsPlan, wanted}
use Rattle.sift_planner.specs.Sizes.{table_at}
use Rattle.sift_planner.proofs.planning.plan_sizes.Given as goal

-- the plans of the sizes so far
abbrev pub invariant-loop-size : goal.invariant-loop-size
invariant-loop-size l =
    (length l.tables.items + least_units ≡ l.size)
    × ((i : ℕ) → i < length l.tables.items → IsPlan (shapes_of l.shapes) (wanted (least_units + i) l.period l.copies) (table_at (map schedule_of l.tables.items) i))
