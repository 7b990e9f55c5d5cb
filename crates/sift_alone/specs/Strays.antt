-- That there are strays which rogues give, and so flights over them: those that storms draw, and none where no unit turns stray.
use Rattle.std.specs.Prelude.{List, [], Option, Some, None, option_to_list, ℕ}
use Rattle.std.specs.List.{flat_map}
use Rattle.sift_base.specs.declared.slots.Layout.{Layout}
use Rattle.sift_buffer.specs.Conduct.{Stray}
use Rattle.sift_flight.specs.Flight.{Flight, HasNoStorms, Strays, no_strays}
use Rattle.sift_jobs.specs.Flights.{IsFlightOf}
use Rattle.sift_mission.specs.Data.{MissionData}
use Rattle.sift_mission.specs.Flown.{flown}
use Rattle.sift_mission.specs.PartsFit.{PartsFit}
use Rattle.sift_rogue.specs.DrawnStorms.{drawn_acts}
use Rattle.sift_rogue.specs.Rogues.{AllowsDrawn}
use Rattle.sift_rogue.specs.Storms.{Call, sifted}
use Rattle.sift_rogue.specs.declared.storm.Storm.{Storm}
use Rattle.sift_script.specs.Faults.{storm_of}
use Rattle.sift_script.specs.declared.script.StormEntry.{StormEntry}
use Rattle.sift_alone.specs.Given.{AreGiven, resting_storms}

-- the strays that unit u draws in this storm: what is stored of as many acts as it has; without a storm there are none
abbrev pub drawn_in : Layout → (u : ℕ) → Option StormEntry → List Stray
drawn_in layout u None = []
drawn_in layout u (Some storm) = flat_map (λ act. option_to_list (sifted layout u act)) (drawn_acts storm.number storm.strays)

-- the strays that the units of a mission draw in their storms
abbrev pub drawn_strays : MissionData → Strays
drawn_strays mission u = drawn_in mission.layout u (storm_of mission.script.faults u)

-- storms, whichever they are, may give to each mission the strays that are drawn
abbrev pub StormsGiveDraws : Type 0
StormsGiveDraws = (storms : List Storm) (mission : MissionData) → AreGiven AllowsDrawn storms mission (drawn_strays mission)

-- rogues of whatever kind give no strays to a mission in which no unit turns
abbrev pub CalmMissionsGetNone : {R : Type 0} → (allows : R → Call → R → Type 0) → Type 0
CalmMissionsGetNone {R} allows = (rogues : List R) (mission : MissionData) → HasNoStorms (flown mission) → AreGiven allows rogues mission no_strays

-- so each mission whose parts fit has a flight over strays that the rogues of the program may give
abbrev pub ProgramsFlyEachMission : Type 0
ProgramsFlyEachMission = (mission : MissionData) → PartsFit mission → (flight : Flight) × IsFlightOf (AreGiven AllowsDrawn resting_storms) mission flight

-- and one in which no unit turns has a flight over strays that any rogues may give
abbrev pub CalmMissionsAreFlown : {R : Type 0} → (allows : R → Call → R → Type 0) → Type 0
CalmMissionsAreFlown {R} allows = (rogues : List R) (mission : MissionData) → PartsFit mission → HasNoStorms (flown mission)
    → (flight : Flight) × IsFlightOf (AreGiven allows rogues) mission flight
