use Rattle.std.proofs.Common.{◌≡◌, ℕ, ◌<◌, false}
use Rattle.sift_base.specs.Units.{has}
use Rattle.sift_table.specs.Rules.{AreApart}
use Rattle.sift_table.specs.Schedule.{positions_of, run_in, schedule_of}
use Rattle.sift_table.proofs.rules.shares_no_position.Given as goal

-- no task before the one at hand that isn't shed shares the row's subframe and a position
abbrev pub invariant-loop-earlier : goal.invariant-loop-earlier
invariant-loop-earlier l =
    (k : ℕ) → k < l.earlier → has (schedule_of l.table).shed k ≡ false → run_in (schedule_of l.table) k ≡ run_in (schedule_of l.table) l.row
    → AreApart (positions_of (schedule_of l.table) k) (positions_of (schedule_of l.table) l.row)
