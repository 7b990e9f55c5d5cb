-- Round flights are whole: what a report wants of a flight holds of each that is flown as it ought to be.
use Rattle.sift_mission.specs.Data.{MissionData, FlownMission}
use Rattle.sift_mission.specs.Flown.{flown}
use Rattle.sift_mission.specs.PartsFit.{PartsFit}
use Rattle.sift_mission.specs.Premises.{IsFlyable}
use Rattle.sift_flight.specs.Flight.{Flight, Strays, IsRound}
use Rattle.sift_flight.specs.Told.{AreAccountsOf, IsLogged, IsWhole, told}
use Rattle.sift_flight.specs.declared.flight.Flight.{Flight as TheFlight}

-- the accounts of each round flight of a mission that can be flown are those of its units
abbrev pub RoundFlightsHaveAccounts : Type 0
RoundFlightsHaveAccounts = (m : FlownMission) (strays : Strays) (fl : Flight) → IsFlyable m → IsRound m strays fl → AreAccountsOf m fl

-- a flight of a mission whose parts fit is whole, where there is a journal and a list of accounts for each unit and what they tell is round
abbrev pub RoundFlightsAreWhole : Type 0
RoundFlightsAreWhole = (d : MissionData) (strays : Strays) (fl : TheFlight) → PartsFit d →
    IsLogged (flown d) d.layout fl → IsRound (flown d) strays (told (flown d) fl) → IsWhole (flown d) d.layout fl
