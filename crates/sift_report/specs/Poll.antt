-- The poll of one output word by one unit, as the code holds it; and when the code asks for one.
use Rattle.std.specs.Prelude.{◌≡◌, ℕ, ◌+◌, ◌<◌, ◌≤◌, List, map, length, true, ◌∷◌, ◌++◌, ◌&&◌, codes}
use Rattle.sift_base.specs.Layout.{word_limit}
use Rattle.sift_base.specs.Units.{has}
use Rattle.sift_mission.specs.Data.{MissionData, FlownMission}
use Rattle.sift_mission.specs.Parts.{flown_of}
use Rattle.sift_mission.specs.declared.mission.MissionParts.{MissionParts}
use Rattle.sift_program.specs.Program.{task_at, first_word}
use Rattle.sift_flight.specs.Flight.{Flight, config_of}
use Rattle.sift_flight.specs.Told.{IsWhole, told}
use Rattle.sift_flight.specs.declared.flight.Flight.{Flight as TheFlight}
use Rattle.sift_line.specs.Part.{list_text, text_or_dash, unit_digit, word_text}
use Rattle.sift_report.specs.Votes.{place_of}
use Rattle.sift_report.specs.declared.poll.Output.{Output}
use Rattle.sift_report.specs.declared.poll.Poll.{Poll}
use Rattle.sift_mission.specs.Slots.{executors}

-- the flight is whole for the mission, and this unit of the mission tells its account in this frame of it
pub record TellsIn (mission : MissionParts) (flight : TheFlight) (f u : ℕ) : Type 0 where
  pub whole : IsWhole (flown_of mission) mission.layout flight
  pub frame : f < (flown_of mission).frames
  pub unit : has (flown_of mission).units u ≡ true
  pub account : ((flown_of mission).works u f && has (config_of (told (flown_of mission) flight) u f) u) ≡ true

-- a task of the mission, whose outputs have the numbers from this one on, within the limit of all words
pub record HasWordsFrom (d : MissionData) (t first : ℕ) : Type 0 where
  pub task : t < length d.program.tasks
  pub first_is : first ≡ first_word d.program.tasks t
  pub room : first + (task_at d.program.tasks t).outputs ≤ word_limit

-- an output of a task of the mission, with its number among all words
pub record IsOutput (d : MissionData) (output : Output) : Type 0 where
  pub task : output.t < length d.program.tasks
  pub low : output.j < (task_at d.program.tasks output.t).outputs
  pub number : output.word ≡ first_word d.program.tasks output.t + output.j

-- an executor and its word, as a unit has it
abbrev pub poll_of : Flight → ℕ → ℕ → ℕ → ℕ → Poll
poll_of fl f u w v = record { unit = v; word = place_of fl f u w v }

-- the executors of a word and their words, as a unit has them
abbrev pub polls_of : FlownMission → Flight → ℕ → ℕ → ℕ → List Poll
polls_of m fl f u w = map (poll_of fl f u w) (executors m (config_of fl u f) w)

-- polls, as a vote tells them
abbrev pub polled_text : List Poll → List ℕ
polled_text polls = list_text (map (λ poll. unit_digit poll.unit ∷ codes ":" ++ text_or_dash word_text poll.word) polls)
