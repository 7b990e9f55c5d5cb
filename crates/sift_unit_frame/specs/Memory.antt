-- What a unit remembers in a frame, and what each slot that was heard and each task that was run adds to it.
use Rattle.std.specs.Prelude.{ℕ, suc, List, [], ◌∷◌, map, slice_index, slice_index_or, slice_set, Bool, not, ◌&&◌, nat_eq, nat_lt, if◌then◌else◌, Option, None, Some, ℤ, ◌+ℤ◌}
use Rattle.std.specs.List.{filter}
use Rattle.std.specs.FinSet as set
use Rattle.sift_base.specs.Units.{Units}
use Rattle.sift_base.specs.declared.slots.Slot.{Slot}
use Rattle.sift_base.specs.declared.slots.Slot.TheVariants.{Clock, Sense, RelaySense, Out, Report, RelayReport}
use Rattle.sift_vote.specs.Majority.{majority_of, agreed_of, differs}
use Rattle.sift_agree.specs.Agreement.{taken}
use Rattle.sift_config.specs.Config.{reader_of}
use Rattle.sift_clock.specs.Correction.{reading_of, is_too_far, corrected_offset}
use Rattle.sift_mission.specs.Data.{FlownMission}
use Rattle.sift_mission.specs.Slots.{executors, is_held}
use Rattle.sift_unit_frame.specs.FrameWords.{FrameWords}

-- what a unit remembers: whom it caught by their clocks, and its next offset; by sensor, the word that its reader said, the agreed word,
-- and whom it caught by their relays; by word, the word that it made, the voted word, and whom it caught in the poll; by unit, the report
-- that the unit said, and the agreed one
pub record Memory : Type 0 where
  pub clock : Units
  pub next_clk : ℤ
  pub direct : List (Option ℕ)
  pub ins : List ℕ
  pub relay : List Units
  pub made : List ℕ
  pub outs : List ℕ
  pub poll : List Units
  pub reports : List (Option ℕ)
  pub agreed : List ℕ

-- the place of a unit, or of a sensor, and absence past the list's end
abbrev pub place_at : List (Option ℕ) → ℕ → Option ℕ
place_at places i = slice_index_or places i None

-- the set at a number, and nobody past the list's end
abbrev pub units_at : List Units → ℕ → Units
units_at sets i = slice_index_or sets i set.empty

-- the units of a list that pass a test
unfoldable pub gathered : (ℕ → Bool) → List ℕ → Units
gathered test us = set.from_list (filter test us)

-- ---- what was heard of a slot

-- u's reading of p's clock, where these words were heard of the clocks
abbrev pub reading_at : FlownMission → ℕ → ℤ → List (Option ℕ) → ℕ → Option ℤ
reading_at m u clk heard p = reading_of (place_at heard p) clk (m.errors u p)

-- the word of executor v in a poll: u's own as it made it, each other as it was heard
abbrev pub polled_at : ℕ → Memory → List (Option ℕ) → ℕ → ℕ → Option ℕ
polled_at u b heard w v = if nat_eq v u then Some (slice_index b.made w) else place_at heard v

-- all words of the poll
abbrev pub poll_of : FlownMission → List ℕ → ℕ → Memory → List (Option ℕ) → ℕ → List (Option ℕ)
poll_of m us u b heard w = map (polled_at u b heard w) (executors m us w)

-- the word of number w after the poll: the agreed word of these words, and where it is held the word voted in the frame before
abbrev pub voted_at : FlownMission → List ℕ → ℕ → List ℕ → Memory → List (Option ℕ) → ℕ → ℕ
voted_at m us u last b heard w = if is_held m us w then slice_index last w else agreed_of (poll_of m us u b heard w)

-- the word that u has for sensor x, where these relays were heard
abbrev pub input_at : FlownMission → List ℕ → ℕ → ℕ → Memory → List (Option ℕ) → ℕ → ℕ
input_at m us u f b heard x =
    if nat_eq (reader_of us x) u then m.sensed x f
    else agreed_of (taken us (reader_of us x) u (λ q. place_at b.direct x) (λ q p. place_at heard p))

-- the other units whose clock is absent or too far away, where these words were heard of the clocks
abbrev pub caught_by_clock : FlownMission → List ℕ → ℕ → ℤ → List (Option ℕ) → Units
caught_by_clock m us u clk heard = gathered (λ v. not (nat_eq v u) && is_too_far (m.skew +ℤ m.error) (reading_at m u clk heard v)) us

-- the next offset, by these words
abbrev pub offset_after : FlownMission → List ℕ → ℕ → ℤ → List (Option ℕ) → ℤ
offset_after m us u clk heard = corrected_offset (m.skew +ℤ m.error) us (reading_at m u clk heard) clk u +ℤ m.drift u

-- the memory after all that is to be heard of a slot was heard, where last has the words voted in the frame before
abbrev pub note : FlownMission → List ℕ → ℕ → ℕ → ℤ → List ℕ → Slot → List (Option ℕ) → Memory → Memory
note m us u f clk last Clock heard b = record b { clock = caught_by_clock m us u clk heard; next_clk = offset_after m us u clk heard }
note m us u f clk last (Sense x) heard b = record b { direct = slice_set b.direct x (place_at heard (reader_of us x)) }
note m us u f clk last (RelaySense x) heard b = record b {
  ins = slice_set b.ins x (input_at m us u f b heard x);
  relay = slice_set b.relay x (gathered (λ v. not (nat_eq v u) && (nat_eq (reader_of us x) u && differs (place_at heard v) (Some (m.sensed x f)))) us);
}
note m us u f clk last (Out w) heard b = record b {
  outs = slice_set b.outs w (voted_at m us u last b heard w);
  poll = slice_set b.poll w (gathered (λ v. m.executes us w v && differs (polled_at u b heard w v) (majority_of (poll_of m us u b heard w))) us);
}
note m us u f clk last Report heard b = record b { reports = heard }
note m us u f clk last (RelayReport s) heard b =
    record b { agreed = slice_set b.agreed s (agreed_of (taken us s u (λ q. place_at b.reports s) (λ q p. place_at heard p))) }

-- ---- what was made

-- a list with those of its places made anew that pass a test, where its first place has number i
abbrev pub renewed : (ℕ → Bool) → (ℕ → ℕ) → List ℕ → ℕ → List ℕ
renewed test value [] i = []
renewed test value (x ∷ xs) i = (if test i then value i else x) ∷ renewed test value xs (suc i)

-- the mission has the word, as one of task t
abbrev pub is_word_of : FlownMission → ℕ → ℕ → Bool
is_word_of m t w = nat_lt w m.words && nat_eq (m.task w) t

-- the words of a frame after task t was run on them
abbrev pub with_task_made : FlownMission → ℕ → FrameWords → FrameWords
with_task_made m t w = record w { made = renewed (is_word_of m t) (λ i. m.word i w.agreed w.voted w.before) w.made 0 }

-- a word of the mission is one of task t, and u executes it
abbrev pub is_made_by : FlownMission → List ℕ → ℕ → ℕ → ℕ → Bool
is_made_by m us u t w = nat_lt w m.words && (nat_eq (m.task w) t && m.executes us w u)

-- the memory after task t was run
abbrev pub run : FlownMission → List ℕ → ℕ → List ℕ → ℕ → Memory → Memory
run m us u last t b = record b { made = renewed (is_made_by m us u t) (λ w. m.word w b.ins b.outs last) b.made 0 }
