use Rattle.std.proofs.Common.{ℕ, ◌<◌}
use Rattle.sift_base.specs.Requirement.{AreMet}
use Rattle.sift_base.specs.Shapes.{shapes_of}
use Rattle.sift_table.specs.Rules.{row_rules}
use Rattle.sift_table.specs.Schedule.{schedule_of}
use Rattle.sift_table.proofs.table.check.Given as goal

-- each row before the one at hand meets the rules of a row
abbrev pub invariant-loop-row : goal.invariant-loop-row
invariant-loop-row l = (t : ℕ) → t < l.row → AreMet (row_rules (schedule_of l.table) (shapes_of l.shapes) t)
