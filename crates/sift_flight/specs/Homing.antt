-- A flight of the code that has come home, and that it is round.
use Rattle.std.specs.Prelude.{◌≡◌, ℕ, true}
use Rattle.sift_base.specs.Units.{has}
use Rattle.sift_buffer.specs.Core.{Core}
use Rattle.sift_buffer.specs.Journals.{HasWordsOf}
use Rattle.sift_buffer.specs.Lawful.{Lawful}
use Rattle.sift_buffer.specs.Ranges.{Ranges}
use Rattle.sift_mission.specs.Fits.{Fits}
use Rattle.sift_mission.specs.Data.{FlownMission}
use Rattle.sift_conduct.specs.Acts.{BoardKeeps}
use Rattle.sift_flight.specs.Landing.{HasPlacesFor, strays_in}
use Rattle.sift_flight.specs.Flight.{IsRound}
use Rattle.sift_flight.specs.Told.{told, journal_of}
use Rattle.sift_flight.specs.declared.flight.Flight.{Flight as TheFlight}

-- a flight that has come home from a core: the core is lawful, and has a place for each unit and slot of the mission; and the journal of each
-- unit has just the words of its conduct there, and its accounts are those by which its board has kept to it in all frames in which it flies
pub record HasComeHome (m : FlownMission) (r : Ranges) (c : Core) (fl : TheFlight) : Type 0 where
  pub lawful : Lawful r c
  pub places : HasPlacesFor m r
  pub journals : (u : ℕ) → has m.units u ≡ true → HasWordsOf (c.of u) (journal_of fl u)
  pub boards : (u : ℕ) → has m.units u ≡ true → BoardKeeps m u (c.of u) ((told m fl).account u) m.frames

-- what such a flight tells is a round flight over the core's strays
abbrev pub FlightsThatComeHomeAreRound : Type 0
FlightsThatComeHomeAreRound = (m : FlownMission) (r : Ranges) (c : Core) (fl : TheFlight) → Fits m → HasComeHome m r c fl →
    IsRound m (strays_in c) (told m fl)
