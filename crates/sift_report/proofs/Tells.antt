-- Words for what the headline says of the working units of a configuration, for the line of one of them, and for parts of the votes and of
-- the ideal machine's outputs.
use Rattle.std.specs.Prelude.{◌&&◌, ◌≤ℤ◌, ◌∷◌, ◌++◌, [], codes, ℕ, ℤ, Bool, List, count_by, map, nat_lt}
use Rattle.std.specs.Fmt.{decimal}
use Rattle.std.specs.List.{filter, flat_map, join_with_byte}
use Rattle.sift_base.specs.Units.{holds}
use Rattle.sift_mission.specs.Data.{MissionData}
use Rattle.sift_mission.specs.Flown.{flown}
use Rattle.sift_program.specs.Ideal.{ideal_words}
use Rattle.sift_conduct.specs.Conduct.{Account}
use Rattle.sift_skew.specs.Figures.{IsSkew}
use Rattle.sift_report.specs.Told.{told_at, works_in}
use Rattle.sift_flight.specs.Flight.{Flight}
use Rattle.sift_line.specs.Bad.{bad_in}
use Rattle.sift_report.specs.Ideal.{outputs_text, sensed_in}
use Rattle.sift_line.specs.Part.{blank}
use Rattle.sift_report.specs.Votes.{unit_votes}
use Rattle.sift_line.specs.declared.line.ReportLine.{ReportLine}
use Rattle.sift_line.specs.declared.line.ReportLine.TheVariants.{Unit as unit}
use Rattle.sift_line.specs.declared.line.Version.{Version}

-- at least two working units of a configuration tell that they caught v
abbrev pub two_tell : MissionData → List ReportLine → ℕ → List ℕ → ℕ → Bool
two_tell d lines f us v = nat_lt 1 (count_by (λ u. works_in d u f && holds (told_at d lines f u).caught v) us)

-- the offsets that the working units of a configuration tell
abbrev pub working_clocks : MissionData → List ReportLine → ℕ → List ℕ → List ℤ
working_clocks d lines f us = map (λ u. (told_at d lines f u).clock) (filter (λ u. works_in d u f) us)

-- the largest difference of two of these offsets, and at most the mission's skew
abbrev pub IsTrueSkew : MissionData → List ℤ → ℤ → Type 0
IsTrueSkew d clocks skew = IsSkew clocks skew × (skew ≤ℤ d.clock.skew)

-- what a working unit of its own configuration tells of a frame, from its account
abbrev pub account_line : Version → ℕ → ℕ → Account → ReportLine
account_line version f u a = unit f u a.cfg a.clk (record { items = a.ins }) (record { items = a.outs }) (bad_in version a.bad)

-- the votes of a frame
abbrev pub frame_votes : MissionData → Flight → ℕ → List ℕ
frame_votes d fl f = flat_map (unit_votes d fl f) (flown d).units

-- the ideal machine's outputs in a frame
abbrev pub ideal_line : MissionData → ℕ → List ℕ
ideal_line d f = outputs_text f (ideal_words d.program (sensed_in (flown d)) (λ g. []) f)

-- the last line behind them
abbrev pub frames_text : ℕ → List ℕ
frames_text frames = join_with_byte blank (codes "end" ∷ (codes "frames=" ++ decimal frames) ∷ []) ++ codes "\n"
