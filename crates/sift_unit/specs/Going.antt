-- What holds of a board that flies: of its desk b and of what its unit did, c.
use Rattle.std.specs.Prelude.{◌≡◌, ℕ, ◌+◌, ◌*◌, ◌<◌, ◌≤◌, ◌&&◌, true, false, List, Option, Some, None, if◌then◌else◌, slice_index_or, length, option_map, unwrap_or, ℤ}
use Rattle.sift_base.specs.Units.{has, unit_limit}
use Rattle.sift_base.specs.declared.slots.Slot.{Slot}
use Rattle.sift_buffer.specs.Conduct.{Saying, Hearing, saying, never}
use Rattle.sift_buffer.specs.Conduct.{Conduct as Acts}
use Rattle.sift_mission.specs.Data.{FlownMission, IsConfigOf}
use Rattle.sift_mission.specs.Slots.{is_slot, calls, stamp_of, heard_at}
use Rattle.sift_conduct.specs.Conduct.{Account, Places, UnitFrame, unit_frame, own_word, Conduct}
use Rattle.sift_conduct.specs.Frames.{last_of, BeginConduct, IdleConduct}
use Rattle.sift_conduct.specs.Acts.{stamp_and_moment}
use Rattle.sift_unit_frame.specs.Memory.{Memory, place_at}
use Rattle.sift_unit_frame.specs.Conditions.{IsShaped}
use Rattle.sift_mission.specs.Stops.{hear_spot, say_spot}
use Rattle.sift_unit.specs.Remembered.{Heard, Ran, Matches, Settled}
use Rattle.sift_unit.specs.Reach.{IsNearIn, IsNear}
use Rattle.sift_unit.specs.Desk.{Desk, cursor, heard_mark, run_mark, settled_mark, is_past}

-- the account of each frame
abbrev pub Accounts : Type 0
Accounts = ℕ → Account

-- the words heard in each frame
abbrev pub Words : Type 0
Words = ℕ → Places

-- the unit in a frame, by these accounts and these heard words
abbrev pub frame_in : FlownMission → ℕ → Accounts → Words → ℕ → UnitFrame
frame_in m u a h f = record { mission = m; unit = u; frame = f; account = a f; heard = h f; last = last_of m a f }

-- ---- acts: one equation a place

-- the word that u says to q in frame f, by these accounts and these heard words
abbrev pub word_in_frame : FlownMission → ℕ → Accounts → Words → ℕ → Slot → ℕ → Option ℕ
word_in_frame m u a h f k q = unwrap_or (m.override u f k q) (own_word (frame_in m u a h f) k)

-- what u has said to q, where it stands at a place of a frame
abbrev pub said_by : FlownMission → ℕ → Accounts → Words → ℕ → ℕ → ℕ → Slot → ℕ → Option Saying
said_by m u a h frame at f k q =
    if calls m (a f).cfg k u q && is_past frame at f (say_spot m (a f).cfg k q)
    then Some (saying (stamp_of m (a f).cfg f k) (word_in_frame m u a h f k q)) else None

-- with which stamp, and at which progress, u has heard from p, where it stands at a place of a frame
abbrev pub heard_by : FlownMission → ℕ → Accounts → ℕ → ℕ → ℕ → Slot → ℕ → Option (ℕ × ℕ)
heard_by m u a frame at f k p =
    if calls m (a f).cfg k p u && is_past frame at f (hear_spot m (a f).cfg k p)
    then Some (stamp_of m (a f).cfg f k, heard_at m (a f).cfg f k) else None

-- all that u has said and heard is what the accounts and the heard words make of it, in each frame
pub record ActsTo (m : FlownMission) (u : ℕ) (c : Acts) (a : Accounts) (h : Words) (frame at : ℕ) : Type 0 where
  pub said : (f : ℕ) (k : Slot) (q : ℕ) → is_slot m k ≡ true → c.said f (m.number k) q ≡ said_by m u a h frame at f k q
  pub heard : (f : ℕ) (k : Slot) (p : ℕ) → is_slot m k ≡ true →
      option_map stamp_and_moment (c.heard f (m.number k) p) ≡ heard_by m u a frame at f k p

-- ---- memory

-- at a place of the frame the memory holds what was heard and made so far
pub record Remembers (x : UnitFrame) (clk : ℤ) (b : Memory) (at : ℕ) : Type 0 where
  pub heard : (k : Slot) → is_slot x.mission k ≡ true → heard_mark x.mission x.account.cfg k ≤ at → Heard x clk b k
  pub ran : (w : ℕ) → w < x.mission.words → run_mark x.mission x.account.cfg (x.mission.task w) ≤ at → Ran x b w

-- the account has what the memory has settled so far
pub record Agrees (m : FlownMission) (us : List ℕ) (a : Account) (b : Memory) (at : ℕ) : Type 0 where
  pub matches : (k : Slot) → is_slot m k ≡ true → heard_mark m us k ≤ at → Matches b a k
  pub settled : settled_mark m us ≤ at → Settled m us b a

-- ---- the invariant

-- words h that may come to be heard and accounts a that may come about: they agree with all that the board knows
pub record Fate (m : FlownMission) (b : Desk) (c : Acts) (a : Accounts) (h : Words) : Type 0 where
  pub heard : (f : ℕ) (k : Slot) (p : ℕ) (x : Hearing) → is_slot m k ≡ true → c.heard f (m.number k) p ≡ Some x → h f k p ≡ x.word
  pub accounts : (f : ℕ) (d : Account) → f < b.frame → a f ≡ slice_index_or b.accounts f d
  pub cfg : (a b.frame).cfg ≡ b.cfg
  pub clk : (a b.frame).clk ≡ b.clk
  pub agrees : has b.cfg b.unit ≡ true → Agrees m b.cfg (a b.frame) b.memory (cursor b)

-- a frame that has ended began with what the frame before it found, and is as its unit was in its configuration or not
pub record Ended (m : FlownMission) (u : ℕ) (a : Accounts) (h : Words) (f : ℕ) : Type 0 where
  pub begins : BeginConduct m u a f
  pub busy : has (a f).cfg u ≡ true → Conduct (frame_in m u a h f)
  pub idle : has (a f).cfg u ≡ false → IdleConduct (a f)

-- the frame of the board's unit, by these accounts and these heard words
abbrev pub desk_frame : FlownMission → Desk → Accounts → Words → UnitFrame
desk_frame m b a h = unit_frame m b.cfg b.unit b.frame (a b.frame) (h b.frame) b.last

-- the board has heard this of the slot at which it stands, from the units before the one at which it stands
abbrev pub HasHeard : FlownMission → Desk → Words → Type 0
HasHeard m b h = b.part ≡ 0 → b.slot < m.slots → b.subframe ≡ m.heard_in b.cfg (m.kind b.slot) →
    (p : ℕ) → p < b.other → calls m b.cfg (m.kind b.slot) p b.unit ≡ true → place_at b.places p ≡ h b.frame (m.kind b.slot) p

-- what then holds
pub record Meets (m : FlownMission) (b : Desk) (c : Acts) (a : Accounts) (h : Words) : Type 0 where
  pub acts : ActsTo m b.unit c a h b.frame (cursor b)
  pub ended : (f : ℕ) → f < b.frame → Ended m b.unit a h f
  pub begins : BeginConduct m b.unit a b.frame
  pub last : b.last ≡ last_of m a b.frame
  pub places : HasHeard m b h
  pub remembers : has b.cfg b.unit ≡ true →
      Remembers (desk_frame m b a h) b.clk b.memory (cursor b)

-- the board's numbers are in range, and its lists have their lengths
pub record InRange (m : FlownMission) (b : Desk) : Type 0 where
  pub unit : has m.units b.unit ≡ true
  pub frame : b.frame ≤ m.frames
  pub subframe : b.subframe < m.period
  pub part : b.part ≤ 2
  pub slot : b.slot ≤ m.slots
  pub other : b.other ≤ unit_limit
  pub count : length b.accounts ≡ b.frame
  pub config : IsConfigOf m b.cfg
  pub configs : (f : ℕ) (d : Account) → f < b.frame → IsConfigOf m (slice_index_or b.accounts f d).cfg
  pub clk : IsNearIn b.frame b.clk
  pub clocks : (f : ℕ) (d : Account) → f < b.frame → IsNear f (slice_index_or b.accounts f d)
  pub last : has b.cfg b.unit ≡ true → length b.last ≡ m.words
  pub places : length b.places ≡ unit_limit
  pub shape : IsShaped m b.cfg b.unit b.memory

-- a board that flies has kept to its conduct so far, whatever it will hear
pub record Going (m : FlownMission) (b : Desk) (c : Acts) : Type 0 where
  pub range : InRange m b
  pub progress : c.progress ≡ b.frame * m.period + b.subframe
  pub left : c.left ≡ never
  pub meets : (a : Accounts) (h : Words) → Fate m b c a h → Meets m b c a h
