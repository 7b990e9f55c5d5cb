-- The votes of a flight: for each output word the places that a unit polled, and their majority.
use Rattle.std.specs.Prelude.{codes, ℕ, ◌+◌, List, [], ◌∷◌, ◌++◌, map, length, slice_index, slice_index_or, ◌&&◌, nat_eq, if◌then◌else◌, Option}
use Rattle.std.specs.Fmt.{decimal}
use Rattle.std.specs.List.{flat_map, join_with_byte, range_with_len}
use Rattle.sift_base.specs.Units.{has, others}
use Rattle.sift_base.specs.declared.slots.Slot.TheVariants.{Out}
use Rattle.sift_program.specs.Program.{first_word, task_at}
use Rattle.sift_vote.specs.Majority.{majority_of}
use Rattle.sift_mission.specs.Data.{MissionData}
use Rattle.sift_mission.specs.Flown.{flown}
use Rattle.sift_mission.specs.Slots.{executors}
use Rattle.sift_flight.specs.Flight.{Flight, config_of}
use Rattle.sift_line.specs.Part.{blank, unit_digit, list_text, text_or_dash, word_text}
use Rattle.sift_report.specs.Sheet.{end_of}

-- the word of an executor as a unit has it: its own as it said it to the lowest other unit of its configuration, each other as it heard it
abbrev pub place_of : Flight → ℕ → ℕ → ℕ → ℕ → Option ℕ
place_of fl f u w v =
    if nat_eq v u then fl.said u f (Out w) (slice_index (others u (config_of fl u f)) 0) else fl.heard u f (Out w) v

-- an output word, by its task and its number among the task's words
pub record TaskOutput : Type 0 where
  pub t : ℕ
  pub j : ℕ

-- the line of a vote, with its line feed: of an output, which is word w of all, with its executors as unit u polled them in frame f
abbrev pub vote_text : MissionData → Flight → ℕ → ℕ → TaskOutput → List ℕ
vote_text d fl f u output =
    let w = first_word d.program.tasks output.t + output.j in
    let place = place_of fl f u w in
    let us = executors (flown d) (config_of fl u f) w in
    join_with_byte blank (
    (codes "f=" ++ decimal f) ∷ (codes "u=" ++ unit_digit u ∷ []) ∷ (codes "t=" ++ (slice_index_or d.names output.t [] ++ (codes "." ++ decimal output.j)))
    ∷ (codes "words=" ++ list_text (map (λ v. unit_digit v ∷ codes ":" ++ text_or_dash word_text (place v)) us))
    ∷ (codes "vote=" ++ text_or_dash word_text (majority_of (map place us))) ∷ []
    ) ++ codes "\n"

-- the votes of the outputs of a task
abbrev pub task_votes : MissionData → Flight → ℕ → ℕ → ℕ → List ℕ
task_votes d fl f u t = flat_map (λ j. vote_text d fl f u (record { t = t; j = j })) (range_with_len 0 (task_at d.program.tasks t).outputs)

-- the votes of a unit in a frame: of each task, where the unit works in the frame and is in its own configuration
abbrev pub unit_votes : MissionData → Flight → ℕ → ℕ → List ℕ
unit_votes d fl f u =
    if (flown d).works u f && has (config_of fl u f) u then flat_map (task_votes d fl f u) (range_with_len 0 (length d.program.tasks)) else []

-- the votes of a flight, and the last line of its report
abbrev pub votes_of : MissionData → Flight → List ℕ
votes_of d fl = flat_map (λ f. flat_map (unit_votes d fl f) (flown d).units) (range_with_len 0 d.frames) ++ end_of (flown d) fl
