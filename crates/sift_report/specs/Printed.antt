-- What the sheets of round flights tell: the headline, whom lies cost their place, and their flights' configurations and margins.
use Rattle.std.specs.Prelude.{◌≡◌, ◌↔◌, ℕ, ◌<◌, ◌≤◌, List, Some}
use Rattle.sift_mission.specs.Data.{MissionData}
use Rattle.sift_mission.specs.Flown.{flown}
use Rattle.sift_mission.specs.PartsFit.{PartsFit}
use Rattle.sift_flight.specs.Figures.{HasMarginAt, config_at}
use Rattle.sift_flight.specs.Flight.{Flight, Strays, IsRound}
use Rattle.sift_flight.specs.Headline.{agreed_at}
use Rattle.sift_report.specs.Caught.{ReportCaught}
use Rattle.sift_report.specs.Headline.{ReportHeadline}
use Rattle.sift_report.specs.Sheet.{sheet_of}
use Rattle.sift_line.specs.declared.line.ReportLine.{ReportLine}
use Rattle.sift_line.specs.declared.line.Version.{Version}
use Rattle.sift_report.specs.Told.{HasMarginTold, agreed_told, config_told}

-- this holds of a mission whose parts fit and the sheet of each of its round flights, in each version
abbrev pub IsPrinted : (MissionData → List ReportLine → Type 0) → Type 0
IsPrinted Holds = (d : MissionData) (strays : Strays) (fl : Flight) (version : Version) → PartsFit d → IsRound (flown d) strays fl →
    Holds d (sheet_of (flown d) fl version)

-- the headline does
abbrev pub HeadlineIsPrinted : Type 0
HeadlineIsPrinted = IsPrinted ReportHeadline

-- and so does what lies cost
abbrev pub CaughtIsPrinted : Type 0
CaughtIsPrinted = IsPrinted ReportCaught

-- the sheet tells its flight: a frame has margin by what is told just where it has margin in the flight; the configuration told at a frame is
-- the one at the frame, where each frame before has margin; and the agreed words told are the flight's, where the frame has margin
pub record TellsItsFlight (d : MissionData) (fl : Flight) (version : Version) : Type 0 where
  pub margin : (f : ℕ) → f < d.frames → HasMarginTold d (sheet_of (flown d) fl version) f ↔ HasMarginAt (flown d) fl f
  pub config : (f : ℕ) → f ≤ d.frames → ((g : ℕ) → g < f → HasMarginAt (flown d) fl g) →
      config_told d (sheet_of (flown d) fl version) f ≡ Some (config_at (flown d) fl f)
  pub agreed : (f : ℕ) → f < d.frames → HasMarginAt (flown d) fl f → agreed_told d (sheet_of (flown d) fl version) f ≡ agreed_at (flown d) fl f

-- so does the sheet of each round flight of a mission whose parts fit
abbrev pub SheetsTellTheirFlights : Type 0
SheetsTellTheirFlights = (d : MissionData) (strays : Strays) (fl : Flight) (version : Version) → PartsFit d → IsRound (flown d) strays fl →
    TellsItsFlight d fl version
