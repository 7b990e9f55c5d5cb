-- What a board guarantees of its unit's acts, for any port: which words it says and hears, with which stamps, and when.
use Rattle.std.specs.Prelude.{◌≡◌, ◌⊎◌, ℕ, ◌+◌, ◌*◌, ◌-◌, ◌<◌, ◌≤◌, List, true, Option, None, Some, option_map, option_and_then, if◌then◌else◌}
use Rattle.sift_base.specs.declared.slots.Slot.{Slot}
use Rattle.sift_buffer.specs.Conduct.{Saying, Hearing, saying, never}
use Rattle.sift_buffer.specs.Conduct.{Conduct as Acts}
use Rattle.sift_mission.specs.Data.{FlownMission, IsConfigOf}
use Rattle.sift_mission.specs.Slots.{is_slot, calls, stamp_of, heard_at}
use Rattle.sift_conduct.specs.Conduct.{Account, Places}
use Rattle.sift_conduct.specs.Frames.{UnitFlight, FrameConduct, Flies}

-- the words of acts, and absence where there is none
abbrev pub word_in_saying : Option Saying → Option ℕ
word_in_saying act = option_and_then (λ said. said.word) act

abbrev pub word_in_hearing : Option Hearing → Option ℕ
word_in_hearing act = option_and_then (λ heard. heard.word) act

-- the words that a unit said, by frame, slot and receiver
abbrev pub said_places : FlownMission → Acts → ℕ → Places
said_places m d f k q = if is_slot m k then word_in_saying (d.said f (m.number k) q) else None

-- the words that a unit heard, by frame, slot and sender
abbrev pub heard_places : FlownMission → Acts → ℕ → Places
heard_places m d f k p = if is_slot m k then word_in_hearing (d.heard f (m.number k) p) else None

-- what a unit does in its flight, by its acts and accounts
abbrev pub unit_flight : FlownMission → Acts → (ℕ → Account) → UnitFlight
unit_flight m d a = record { said = said_places m d; heard = heard_places m d; account = a }

-- each word said in a frame has a stamp of that frame
abbrev pub StampsAreOfTheirFrames : FlownMission → Acts → Type 0
StampsAreOfTheirFrames m d = (f : ℕ) (k : Slot) (q s : ℕ) (w : Option ℕ) → is_slot m k ≡ true →
    d.said f (m.number k) q ≡ Some (saying s w) → (f * m.period < s) × (s ≤ f * m.period + m.period)

-- a unit with a storm from a frame on turns at the end of the frame before, if at all yet; till then its progress is below that frame's
-- first subframe; and it says and hears nothing from that frame on
pub record TurnsAt (m : FlownMission) (from : ℕ) (d : Acts) : Type 0 where
  pub left : ((d.left ≡ never) × ((d.progress < from * m.period) ⊎ (d.progress ≡ 0))) ⊎ (d.left ≡ from * m.period - 1)
  pub says_nothing : (f : ℕ) (k : Slot) (q : ℕ) → is_slot m k ≡ true → from ≤ f → d.said f (m.number k) q ≡ None
  pub hears_nothing : (f : ℕ) (k : Slot) (p : ℕ) → is_slot m k ≡ true → from ≤ f → d.heard f (m.number k) p ≡ None

-- one without a storm never turns
abbrev pub Turns : FlownMission → Option ℕ → Acts → Type 0
Turns m None d = d.left ≡ never
Turns m (Some from) d = TurnsAt m from d

-- the stamp of a word that was heard, and the own progress at that moment
abbrev pub stamp_and_moment : Hearing → ℕ × ℕ
stamp_and_moment act = (act.stamp, act.at)

-- what a unit said and heard in a frame that it has ended, with its configuration us: its words have its stamps, and it has heard just the
-- slots and units that it hears, each in the subframe in which the slot is heard
pub record ActsAre (m : FlownMission) (d : Acts) (us : List ℕ) (u f : ℕ) : Type 0 where
  pub said : (k : Slot) (q s : ℕ) (w : Option ℕ) → is_slot m k ≡ true → d.said f (m.number k) q ≡ Some (saying s w) → s ≡ stamp_of m us f k
  pub heard : (k : Slot) (p : ℕ) → is_slot m k ≡ true →
      option_map stamp_and_moment (d.heard f (m.number k) p) ≡ (if calls m us k p u then Some (stamp_of m us f k, heard_at m us f k) else None)

-- what a unit said and heard in the frame that is underway, with its configuration us: each word is one that it says, with its stamp, or one
-- that it hears, in the subframe in which the slot is heard; and in later frames it said and heard nothing yet
pub record IsUnderway (m : FlownMission) (d : Acts) (us : List ℕ) (u f : ℕ) : Type 0 where
  pub said : (k : Slot) (q s : ℕ) (w : Option ℕ) → is_slot m k ≡ true → d.said f (m.number k) q ≡ Some (saying s w) →
      (calls m us k u q ≡ true) × (s ≡ stamp_of m us f k)
  pub heard : (k : Slot) (p : ℕ) (act : Hearing) → is_slot m k ≡ true → d.heard f (m.number k) p ≡ Some act →
      (calls m us k p u ≡ true) × (stamp_and_moment act ≡ (stamp_of m us f k, heard_at m us f k))
  pub says_nothing : (later : ℕ) (k : Slot) (q : ℕ) → is_slot m k ≡ true → f < later → d.said later (m.number k) q ≡ None
  pub hears_nothing : (later : ℕ) (k : Slot) (p : ℕ) → is_slot m k ≡ true → f < later → d.heard later (m.number k) p ≡ None

-- what a board has kept where its unit has ended n frames, for any port: of its acts d and its accounts a
pub record BoardKeeps (m : FlownMission) (u : ℕ) (d : Acts) (a : ℕ → Account) (n : ℕ) : Type 0 where
  pub stamps : StampsAreOfTheirFrames m d
  pub turns : Turns m (m.storm u) d
  pub config : (f : ℕ) → f < n → Flies m u f → IsConfigOf m (a f).cfg
  pub acts : (f : ℕ) → f < n → Flies m u f → ActsAre m d (a f).cfg u f
  pub conduct : (f : ℕ) → f < n → Flies m u f → FrameConduct m u (unit_flight m d a) f
