-- A core that is lawful, with something done of each kind, and for each condition a core that breaks it.
use Rattle.std.specs.Prelude.{List, [], ◌∷◌, slice_set, Some}
use Rattle.sift_buffer.specs.Cell.{packed}
use Rattle.sift_buffer.specs.Ranges.{Ranges, place}
use Rattle.sift_buffer.specs.Conduct.{fresh, with_seen, with_said, with_heard, with_turned}
use Rattle.sift_buffer.specs.Core.{Core, Event, look, hear, say, enter, turn, stray, fresh_core, with_conduct, with_word, after_all, AllAllowed}
use Rattle.sift_buffer.specs.Lawful.{CellsAreLastSaid, StampsAscend, SightsAreReached, UnitsKeepPace, HearsSayings, StraysAreOwn, Lawful}

-- two units, one slot and two frames
abbrev pub pair : Ranges
pair = record { units = 2; slots = 1; frames = 2 }

-- nobody has done anything
abbrev pub idle : Core
idle = fresh_core pair

-- unit 0 says 7 and unit 1 hears it two subframes later; then unit 0 turns and stores a stray 9 with the same stamp, which unit 1 hears
abbrev pub story : List Event
story =
    say 0 1 0 0 1 (Some 7) ∷ enter 0 ∷ enter 1 ∷ look 0 1 ∷ look 1 0 ∷ enter 0 ∷ enter 1 ∷ hear 1 0 0 0 1 ∷
    look 0 1 ∷ turn 0 ∷ stray 0 1 0 (packed 1 (Some 9)) ∷ hear 1 0 0 1 1 ∷ []

-- a cell holds 7, and its unit has said nothing
abbrev pub unsaid : Core
unsaid = record idle { words = slice_set idle.words (place pair 0 1 0) 7 }

-- unit 0 has said with stamp 2 in subframe 0
abbrev pub early : Core
early = with_conduct idle 0 (with_said fresh 0 0 1 2 (Some 7))

-- unit 0 has seen unit 1 at 1, which is at 0
abbrev pub foreseen : Core
foreseen = with_conduct idle 0 (with_seen fresh 1 1)

-- unit 0 is at 2, and unit 1 at 0
abbrev pub ahead : Core
ahead = with_word idle 0 2 0 (record fresh { progress = 2 })

-- unit 1 heard 7 from unit 0, which has said nothing
abbrev pub invented : Core
invented = with_conduct idle 1 (with_heard fresh 0 0 0 1 (Some 7))

-- unit 0 has turned and stored nothing, and its cell holds 7
abbrev pub haunted : Core
haunted = record { words = unsaid.words; of = (with_conduct idle 0 (with_turned fresh)).of }

-- the story's events are allowed and lead to a lawful core, and each condition refuses a core
pub record ConditionsTellApart : Type 0 where
  pub allowed : AllAllowed pair idle story
  pub lawful : Lawful pair (after_all pair idle story)
  pub cells : ¬ CellsAreLastSaid pair unsaid
  pub stamps : ¬ StampsAscend pair early
  pub sights : ¬ SightsAreReached pair foreseen
  pub pace : ¬ UnitsKeepPace pair ahead
  pub heard : ¬ HearsSayings pair invented
  pub turned : ¬ StraysAreOwn pair haunted
