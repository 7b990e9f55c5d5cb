-- The outputs of the ideal machine over the mission's own sensor words.
use Rattle.std.specs.Prelude.{codes, ℕ, List, [], ◌∷◌, ◌++◌, map}
use Rattle.std.specs.Fmt.{decimal}
use Rattle.std.specs.List.{flat_map, join_with_byte, range_with_len}
use Rattle.sift_program.specs.Ideal.{ideal_words}
use Rattle.sift_mission.specs.Data.{MissionData, FlownMission}
use Rattle.sift_mission.specs.Flown.{flown}
use Rattle.sift_line.specs.Part.{blank, words_text}

-- the words of the mission's sensors in a frame
abbrev pub sensed_in : FlownMission → ℕ → List ℕ
sensed_in m f = map (λ x. m.sensed x f) (range_with_len 0 m.sensors)

-- the line of a frame with these outputs, with its line feed
abbrev pub outputs_text : ℕ → List ℕ → List ℕ
outputs_text f outs = join_with_byte blank ((codes "f=" ++ decimal f) ∷ (codes "out=" ++ words_text outs) ∷ []) ++ codes "\n"

-- the outputs of the ideal machine in each frame, where no task is shed, and the last line
abbrev pub ideal_of : MissionData → List ℕ
ideal_of d =
    flat_map (λ f. outputs_text f (ideal_words d.program (sensed_in (flown d)) (λ g. []) f)) (range_with_len 0 d.frames)
    ++ (join_with_byte blank (codes "end" ∷ (codes "frames=" ++ decimal d.frames) ∷ []) ++ codes "\n")
