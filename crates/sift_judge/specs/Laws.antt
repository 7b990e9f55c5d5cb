-- The laws of verdicts.
use Rattle.std.specs.Prelude.{◌≡◌, ◌↔◌, ℕ, List}
use Rattle.sift_mission.specs.Data.{MissionData}
use Rattle.sift_mission.specs.Flown.{flown}
use Rattle.sift_mission.specs.PartsFit.{PartsFit}
use Rattle.sift_flight.specs.Flight.{Flight, Strays, IsRound}
use Rattle.sift_report.specs.Sheet.{sheet_of}
use Rattle.sift_line.specs.declared.line.ReportLine.{ReportLine}
use Rattle.sift_line.specs.declared.line.Version.{Version}
use Rattle.sift_judge.specs.Verdict.{Breaks, IsVerdict, Rule}
use Rattle.sift_judge.specs.declared.judging.Verdict.{Verdict}
use Rattle.sift_judge.specs.declared.judging.Verdict.TheVariants.{Yes}

-- lines have one verdict at most
abbrev pub OneVerdict : Type 0
OneVerdict = (d : MissionData) (lines : List ReportLine) (one other : Verdict) → IsVerdict d lines one → IsVerdict d lines other → one ≡ other

-- the sheet of each round flight of a mission whose parts fit is judged yes, in each version and whatever its stray units stored
abbrev pub SheetsAreJudgedYes : Type 0
SheetsAreJudgedYes = (d : MissionData) (strays : Strays) (fl : Flight) (version : Version) → PartsFit d → IsRound (flown d) strays fl →
    IsVerdict d (sheet_of (flown d) fl version) Yes

-- the lines are judged yes exactly where they break no rule
abbrev pub IsYesWhereNothingBreaks : MissionData → List ReportLine → Type 0
IsYesWhereNothingBreaks d lines = IsVerdict d lines Yes ↔ ((rule : Rule) (f : ℕ) → ¬ Breaks rule d lines f)
