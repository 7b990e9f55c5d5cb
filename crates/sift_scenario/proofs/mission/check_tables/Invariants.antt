use Rattle.std.proofs.Common.{◌≡◌, map}
use Rattle.std.specs.List.{All}
use Rattle.sift_base.specs.Shapes.{shapes_of}
use Rattle.sift_table.specs.Rules.{IsGood}
use Rattle.sift_table.specs.Schedule.{schedule_of}
use Rattle.sift_scenario.proofs.mission.check_tables.Given as goal

-- the tables so far, and they are good
abbrev pub invariant-loop-table : goal.invariant-loop-table
invariant-loop-table l =
    (l.goods.items ≡ map schedule_of l.yielded)
    × All (λ table. IsGood table (shapes_of l.shapes)) l.goods.items
