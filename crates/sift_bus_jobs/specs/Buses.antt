-- The command `buses`: the report of a flight over three buses, and how many words the faulty one got wrong.
use Rattle.std.specs.Prelude.{codes, ℕ, ◌≡◌, ◌⊎◌, List, [], ◌∷◌, ◌++◌, false, true, Some}
use Rattle.sift_base.specs.Units.{has}
use Rattle.sift_flight.specs.Flight.{Flight, Strays, HasNoStorms, IsRound}
use Rattle.sift_mission.specs.Data.{MissionData, FlownMission}
use Rattle.sift_mission.specs.Flown.{flown}
use Rattle.sift_reply.specs.Reply.{Reply, done, done_status}
use Rattle.sift_row.specs.Row.{Mission, Row}
use Rattle.sift_line.specs.Line.{text_of_lines}
use Rattle.sift_report.specs.Sheet.{sheet_of}
use Rattle.sift_line.specs.declared.line.Version.TheVariants.{Two}
use Rattle.sift_bus_jobs.specs.Numbers.{BusNumbers, bus_flag, buses_job_of, from_flag, value_flag}
use Rattle.sift_bus_jobs.specs.Text.{words_text}
use Rattle.sift_bus_jobs.specs.Wrong.{wrong_in}

-- ---- storms

-- a unit of the mission turns stray in some frame
abbrev pub HasStorm : FlownMission → Type 0
HasStorm m = (u : ℕ) × (from : ℕ) × (has m.units u ≡ true) × (m.storm u ≡ Some from)

-- the status of a mission that has a storm
abbrev pub storm_status : ℕ
storm_status = 15

-- the reply to it: it isn't flown
abbrev pub storm : Reply
storm = record { status = storm_status; text = codes "storm\n" }

-- ---- flights

-- a flight of a mission without storms: in each frame each unit hears by the hearing equations and does what the conduct equations say. There
-- is one such flight (buses change no word that a unit hears)
pub record FliesCalm (mission : MissionData) (flight : Flight) : Type 0 where
  pub calm : HasNoStorms (flown mission)
  pub strays : Strays
  pub round : IsRound (flown mission) strays flight

-- the text of a flight: its report in version 2; and for each frame how many words the faulty bus got wrong of those that all units heard
abbrev pub told : BusNumbers → MissionData → Flight → List ℕ
told job mission flight =
    text_of_lines (sheet_of (flown mission) flight Two) ++ words_text job.bus mission.frames (wrong_in job (flown mission) flight)

-- ---- what it gives

-- the text tells it of a flight of the mission, which has no storm
abbrev pub TellsBuses : BusNumbers → MissionData → (text : List ℕ) → Type 0
TellsBuses job mission text = (flight : Flight) × FliesCalm mission flight × (text ≡ told job mission flight)

-- the text of a flight of the mission, where it has no storm; that it has one
abbrev pub BusesGives : BusNumbers → MissionData → Reply → Type 0
BusesGives job mission came =
    ((text : List ℕ) × TellsBuses job mission text × (came ≡ done text))
    ⊎ (HasStorm (flown mission) × (came ≡ storm))

-- its row
abbrev pub buses_row : Row BusNumbers
buses_row = record {
  word = codes "buses";
  flags = bus_flag ∷ from_flag ∷ value_flag ∷ [];
  job_of = buses_job_of;
  does = λ numbers. Mission false (BusesGives numbers);
  statuses = done_status ∷ storm_status ∷ [];
  by_one = λ numbers. numbers;
}
