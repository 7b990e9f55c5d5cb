-- The lines of a sheet are of its version.
use Rattle.std.specs.List.{All}
use Rattle.sift_flight.specs.Flight.{Flight}
use Rattle.sift_line.specs.Line.{HasVersion}
use Rattle.sift_line.specs.declared.line.Version.{Version}
use Rattle.sift_mission.specs.Data.{FlownMission}
use Rattle.sift_report.specs.Sheet.{sheet_of}

-- each line of a sheet is one of the sheet's version
abbrev pub SheetsHaveTheirVersion : Type 0
SheetsHaveTheirVersion = (m : FlownMission) (fl : Flight) (version : Version) → All (HasVersion version) (sheet_of m fl version)
