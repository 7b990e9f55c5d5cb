-- Lies: what the script of faults has a unit say to one that knows better. They are told by the mission, the configuration, and what the hearer
-- knows, so flights and reports have them in common.
use Rattle.std.specs.Prelude.{◌≡◌, ◌≢◌, ℕ, ◌<◌, List, slice_index, Bool, true, false, Option, None, Some, ℤ, ◌+ℤ◌}
use Rattle.sift_base.specs.declared.slots.Slot.{Slot}
use Rattle.sift_base.specs.declared.slots.Slot.TheVariants as slot
use Rattle.sift_clock.specs.Correction.{reading_of, is_too_far}
use Rattle.sift_config.specs.Config.{reader_of}
use Rattle.sift_exec.specs.declared.catches.Kind.{Kind}
use Rattle.sift_exec.specs.declared.catches.Kind.TheVariants.{Poll, Relay, Clock}
use Rattle.sift_mission.specs.Data.{FlownMission}

-- ---- lies

-- what a unit knows in a frame, by which it judges what it hears: the words that it voted, and its own clock
pub record Known : Type 0 where
  pub outputs : List ℕ
  pub clock : ℤ

-- what u says to q in frame f, under the configuration us: a word, or nothing
module _ (m : FlownMission) (us : List ℕ) (f u q : ℕ) (known : Known) where
  -- a false result: u executes a word, and says to q another than q voted, or nothing
  pub record IsFalseResult : Type 0 where
    pub word : ℕ
    pub said : Option ℕ
    pub low : word < m.words
    pub executes : m.executes us word u ≡ true
    pub script : m.override u f (slot.Out word) q ≡ Some said
    pub untrue : said ≢ Some (slice_index known.outputs word)

  -- a false relay: q reads a sensor, and u relays to it another word than the sensor's, or nothing
  pub record IsFalseRelay : Type 0 where
    pub sensor : ℕ
    pub said : Option ℕ
    pub low : sensor < m.sensors
    pub reads : reader_of us sensor ≡ q
    pub script : m.override u f (slot.RelaySense sensor) q ≡ Some said
    pub untrue : said ≢ Some (m.sensed sensor f)

  -- a false clock: u shows to q a clock that q reads farther off than the skew and the error, or nothing
  pub record IsFalseClock : Type 0 where
    pub said : Option ℕ
    pub script : m.override u f slot.Clock q ≡ Some said
    pub far : is_too_far (m.skew +ℤ m.error) (reading_of said known.clock (m.errors q u)) ≡ true

  -- a lie, by the way in which q catches u for it
  abbrev pub IsLie : Kind → Type 0
  IsLie Poll = IsFalseResult
  IsLie Relay = IsFalseRelay
  IsLie Clock = IsFalseClock

  -- u lies to q, in one way or another
  abbrev pub Lies : Type 0
  Lies = (way : Kind) × IsLie way

-- ---- own words

-- a slot for what a unit found of others: its report, or its relay of one
abbrev pub is_of_reports : Slot → Bool
is_of_reports slot.Clock = false
is_of_reports (slot.Sense x) = false
is_of_reports (slot.RelaySense x) = false
is_of_reports (slot.Out w) = false
is_of_reports slot.Report = true
is_of_reports (slot.RelayReport r) = true

-- the script leaves u its own words in a frame, but for reports
abbrev pub SaysItsOwn : FlownMission → (f u : ℕ) → Type 0
SaysItsOwn m f u = (k : Slot) (q : ℕ) → is_of_reports k ≡ false → m.override u f k q ≡ None
