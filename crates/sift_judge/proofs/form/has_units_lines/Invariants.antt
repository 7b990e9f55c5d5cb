use Rattle.std.proofs.Common.{ℕ, ◌<◌}
use Rattle.std.specs.Prelude.{IsSomeAnd}
use Rattle.sift_mission.specs.Parts.{data_of}
use Rattle.sift_report.specs.Told.{line_at}
use Rattle.sift_report.specs.Headline.{IsUnitsLine}
use Rattle.sift_judge.proofs.form.has_units_lines.Given as goal

-- the units so far have their lines
abbrev pub invariant-loop-i : goal.invariant-loop-i
invariant-loop-i l = (u : ℕ) → u < l.i → IsSomeAnd (line_at (data_of l.mission) l.lines l.f u) (IsUnitsLine (data_of l.mission) l.f u)
