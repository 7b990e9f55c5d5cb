use Rattle.std.proofs.Common.{◌≡◌, map, take, string_bytes}
use Rattle.sift_table.specs.Schedule.{schedule_of}
use Rattle.sift_planner.specs.Text.{tables_text}
use Rattle.sift_planner.proofs.text.tables_text.Given as goal

-- the tables so far are written
abbrev pub invariant-loop-table : goal.invariant-loop-table
invariant-loop-table l = string_bytes l.text ≡ tables_text (map schedule_of (take l.table-index l.tables))
