-- The words that a unit has in a frame.
use Rattle.std.specs.Prelude.{◌≡◌, ℕ, ◌+◌, ◌++◌, List, [], Bool, length, take, drop, replicate, slice_set, if◌then◌else◌}
use Rattle.sift_mission.specs.Data.{FlownMission}

-- the agreed words, by sensor; and by output word those that were voted in the frame before, those that are voted in this one, and those that
-- the unit makes itself, of which there are none while it is outside its configuration
pub record FrameWords : Type 0 where
  pub agreed : List ℕ
  pub before : List ℕ
  pub voted : List ℕ
  pub made : List ℕ

-- there is a word for each sensor and each output word of the mission, and the unit makes its own
pub record HasAllWords (m : FlownMission) (w : FrameWords) : Type 0 where
  pub agreed : length w.agreed ≡ m.sensors
  pub voted : length w.voted ≡ m.words
  pub before : length w.before ≡ m.words
  pub made : length w.made ≡ m.words

-- so many zeros, and none where there are to be none
abbrev pub zeros_where : Bool → ℕ → List ℕ
zeros_where there n = if there then replicate n 0 else []

-- before the flight: zeros, but for the words before frame 0
abbrev pub first_words : ℕ → List ℕ → FrameWords
first_words sensors starts = record {
  agreed = replicate sensors 0;
  before = starts;
  voted = replicate (length starts) 0;
  made = replicate (length starts) 0;
}

-- the words with another agreed word
abbrev pub with_agreed : FrameWords → ℕ → ℕ → FrameWords
with_agreed w sensor word = record w { agreed = slice_set w.agreed sensor word }

-- the words with another voted word
abbrev pub with_voted : FrameWords → ℕ → ℕ → FrameWords
with_voted w at word = record w { voted = slice_set w.voted at word }

-- the words with others made, from a place on
abbrev pub with_made : FrameWords → ℕ → List ℕ → FrameWords
with_made w at words = record w { made = take at w.made ++ (words ++ drop (at + length words) w.made) }

-- the words of the next frame, after one in which words were voted: none is made yet, and none will be where the unit leaves
abbrev pub next_words : Bool → FrameWords → FrameWords
next_words stays w = record w { before = w.voted; made = zeros_where stays (length w.voted) }

-- the words of the next frame, after one in which none was voted
abbrev pub without_before : FrameWords → FrameWords
without_before w = record w { before = [] }
