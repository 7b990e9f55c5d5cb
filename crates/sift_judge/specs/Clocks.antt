-- What the judge asks of the clocks that a frame's lines tell.
use Rattle.std.specs.Prelude.{◌≤ℤ◌, ℕ, ℤ, List, map}
use Rattle.std.specs.List.{filter}
use Rattle.sift_mission.specs.Data.{MissionData}
use Rattle.sift_skew.specs.Figures.{IsSkew}
use Rattle.sift_report.specs.Told.{told_at, works_in}
use Rattle.sift_line.specs.declared.line.ReportLine.{ReportLine}

-- the offset of its clock that a unit tells
abbrev pub clock_told : MissionData → List ReportLine → (f u : ℕ) → ℤ
clock_told d lines f u = (told_at d lines f u).clock

-- the offsets that the working units of a configuration tell
abbrev pub working_clocks : MissionData → List ReportLine → ℕ → List ℕ → List ℤ
working_clocks d lines f us = map (clock_told d lines f) (filter (λ u. works_in d u f) us)

-- the largest difference of two of these offsets, and at most the mission's skew
abbrev pub IsTrueSkew : MissionData → List ℤ → ℤ → Type 0
IsTrueSkew d clocks skew = IsSkew clocks skew × (skew ≤ℤ d.clock.skew)
