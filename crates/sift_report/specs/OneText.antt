-- The texts of flights that tell the same.
use Rattle.std.specs.Prelude.{◌≡◌, ◌<◌}
use Rattle.sift_mission.specs.Data.{MissionData}
use Rattle.sift_mission.specs.Flown.{flown}
use Rattle.sift_flight.specs.Alike.{AreAlike}
use Rattle.sift_flight.specs.Flight.{Flight}
use Rattle.sift_line.specs.Line.{text_of_lines}
use Rattle.sift_report.specs.Sheet.{end_of, sheet_of}
use Rattle.sift_report.specs.Votes.{votes_of}
use Rattle.sift_line.specs.declared.line.Version.{Version}

-- two flights have one report in each version, one text of votes and one last line
pub record HaveOneText (d : MissionData) (fl gl : Flight) : Type 0 where
  pub report : (version : Version) → text_of_lines (sheet_of (flown d) fl version) ≡ text_of_lines (sheet_of (flown d) gl version)
  pub votes : votes_of d fl ≡ votes_of d gl
  pub end : end_of (flown d) fl ≡ end_of (flown d) gl

-- flights that tell the same have one text of each kind
abbrev pub AlikeFlightsHaveOneText : Type 0
AlikeFlightsHaveOneText = (d : MissionData) (fl gl : Flight) → 0 < d.frames → AreAlike (flown d) fl gl → HaveOneText d fl gl
