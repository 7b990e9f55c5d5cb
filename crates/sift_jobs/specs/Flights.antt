-- The flights that commands speak of: over which strays, by whom, and what is told of one.
use Rattle.std.specs.Prelude.{ℕ, ◌≡◌, List, ⊤}
use Rattle.std.specs.List.{All}
use Rattle.sift_flight.specs.Flight.{Flight, Strays, IsRound}
use Rattle.sift_mission.specs.Data.{MissionData}
use Rattle.sift_mission.specs.Flown.{flown}
use Rattle.sift_reply.specs.Reply.{Reply, done}
use Rattle.sift_line.specs.Line.{IsLine, text_of_lines}
use Rattle.sift_report.specs.Sheet.{end_of, sheet_of}
use Rattle.sift_report.specs.Votes.{votes_of}
use Rattle.sift_jobs.specs.declared.order.Telling.{Telling}
use Rattle.sift_jobs.specs.declared.order.Telling.TheVariants.{Report, Votes, LastLine}
use Rattle.sift_jobs.specs.declared.order.Workers.{Workers}

-- ---- flights of missions

-- a flight of the mission over strays that rogues may give: in each frame each unit hears by the hearing equations and does what the
-- conduct equations say, till it turns stray; and then it stores the strays that its rogue gives. What a unit hears of these is left open
pub record IsFlightOf (given : MissionData → Strays → Type 0) (mission : MissionData) (flight : Flight) : Type 0 where
  pub strays : Strays
  pub given_are : given mission strays
  pub round : IsRound (flown mission) strays flight

-- what flies missions: the strays that its rogues may give, and which flights over them these workers may fly. By whom a flight was flown
-- shows where one worker steps the units in an order
pub record Flying : Type 1 where
  pub gives : MissionData → Strays → Type 0
  pub flies : Workers → MissionData → Flight → Type 0

-- what flies any flight over strays that rogues may give, whoever the workers are
abbrev pub freely : (given : MissionData → Strays → Type 0) → Flying
freely given = record { gives = given; flies = λ workers mission flight. ⊤ }

-- a flight of the mission that these workers may fly
pub record IsFlownBy (flying : Flying) (workers : Workers) (mission : MissionData) (flight : Flight) : Type 0 where
  pub over : IsFlightOf flying.gives mission flight
  pub by : flying.flies workers mission flight

-- ---- what is told of a flight

-- the text tells it of a flight of a mission: its report in a version, of which what it prints are lines; its votes; or the report's last line
abbrev pub IsTelling : MissionData → Flight → Telling → (text : List ℕ) → Type 0
IsTelling mission flight (Report version) text =
    All IsLine (sheet_of (flown mission) flight version) × (text ≡ text_of_lines (sheet_of (flown mission) flight version))
IsTelling mission flight Votes text = text ≡ votes_of mission flight
IsTelling mission flight LastLine text = text ≡ end_of (flown mission) flight

-- it tells it of some flight of the mission that these workers may fly
abbrev pub TellsFlight : Flying → Workers → MissionData → Telling → (text : List ℕ) → Type 0
TellsFlight flying workers mission telling text = (flight : Flight) × IsFlownBy flying workers mission flight × IsTelling mission flight telling text

-- the reply has the status 0, and its text does
abbrev pub RepliesWith : Flying → Workers → MissionData → Telling → Reply → Type 0
RepliesWith flying workers mission telling came = (text : List ℕ) × TellsFlight flying workers mission telling text × (came ≡ done text)
