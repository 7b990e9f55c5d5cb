-- The document missions/two_catchers.toml, as its tree: it states the mission in which unit 4 fails within the margin, and each flight of the mission
-- that it states tells of that.
use Rattle.std.specs.Prelude.{codes, ◌≡◌, ℕ, List, Some, pos}
use Rattle.toml.specs.Data.{Data, Members, array, integer, item, member, no_items, no_members, string, table}
use Rattle.toml.specs.Parse.{parse_document}
use Rattle.sift_flight.specs.Flight.{Flight, Strays, IsRound}
use Rattle.sift_line.specs.declared.line.Version.{Version}
use Rattle.sift_load.specs.Loads.{States}
use Rattle.sift_mission.specs.Data.{MissionData}
use Rattle.sift_mission.specs.Flown.{flown}
use Rattle.sift_report.specs.Sheet.{sheet_of}
use Rattle.sift_report.specs.TwoCatchers.{TellsOfTheFault, mission}
use Rattle.sift_scenario.specs.Mission.{IsMission}

-- ---- the tree of the document. The keys of a table stand in their order as bytes

-- a number, and an array of one value
abbrev pub number : ℕ → Data
number n = integer (pos n)

abbrev pub only : Data → Data
only value = array (item value no_items)

-- the task: name = "count", start = [5], linear = [3, 1]
abbrev pub task : Members
task = member (codes "linear") (array (item (number 3) (item (number 1) no_items)))
    (member (codes "name") (string (codes "count")) (member (codes "start") (only (number 5)) no_members))

-- what the faulty unit says: slot = "out", index = 0, word = 0, to = "01", value = 7
abbrev pub change : Members
change = member (codes "index") (number 0) (member (codes "slot") (string (codes "out")) (member (codes "to") (string (codes "01"))
    (member (codes "value") (number 7) (member (codes "word") (number 0) no_members))))

-- the fault: unit = 4, from = 0, and what it says
abbrev pub fault : Members
fault = member (codes "from") (number 0) (member (codes "say") (only (table change)) (member (codes "unit") (number 4) no_members))

-- the document: units = 5, frames = 2, the task and the fault
abbrev pub tree : Members
tree = member (codes "fault") (only (table fault)) (member (codes "frames") (number 2) (member (codes "task") (only (table task))
    (member (codes "units") (number 5) no_members)))

-- ---- what it states

-- the tree states the mission, and each flight of a mission that bytes with this tree state tells of the fault, in each version
pub record FaultIsStated : Type 0 where
  pub states : IsMission tree mission
  pub tells : (bytes : List ℕ) (stated : MissionData) (strays : Strays) (fl : Flight) (version : Version) → parse_document bytes ≡ Some tree
      → States bytes stated → IsRound (flown stated) strays fl → TellsOfTheFault (sheet_of (flown stated) fl version)
