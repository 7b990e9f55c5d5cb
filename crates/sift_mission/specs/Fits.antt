-- What tables, layout, program and limits give of a mission: premises that hold of every mission that the code makes.
use Rattle.std.specs.Prelude.{◌≡◌, ℕ, ◌+◌, ◌<◌, ◌≤◌, List, length, slice_index, Bool, true, false, pos, ◌+ℤ◌, ◌≤ℤ◌}
use Rattle.sift_base.specs.Units.{has, unit_limit}
use Rattle.sift_base.specs.Layout.{sensor_limit, word_limit}
use Rattle.sift_base.specs.declared.slots.Slot.{Slot}
use Rattle.sift_base.specs.declared.slots.Slot.TheVariants.{Clock, Sense, RelaySense, Out, Report, RelayReport}
use Rattle.sift_clock.specs.Distance.{IsWithin}
use Rattle.sift_mission.specs.Data.{FlownMission, IsConfigOf}
use Rattle.sift_mission.specs.Slots.{is_slot, is_held, is_silent, executors}
use Rattle.sift_mission.specs.PartsFit.{frame_limit, longest_period, start_limit}
use Rattle.sift_table.specs.Schedule.{shortest_period}

-- by how many ticks an offset changes in a frame at most
abbrev pub change_limit : ℕ
change_limit = 9600

-- the most slots of a mission
abbrev pub slot_limit : ℕ
slot_limit = 90

-- each slot has a number of its own, and each number below the count its slot
pub record IsNumbered (m : FlownMission) : Type 0 where
  pub few : m.slots ≤ slot_limit
  pub low : (k : Slot) → is_slot m k ≡ true → m.number k < m.slots
  pub back : (k : Slot) → is_slot m k ≡ true → m.kind (m.number k) ≡ k
  pub slot : (i : ℕ) → i < m.slots → is_slot m (m.kind i) ≡ true
  pub there : (i : ℕ) → i < m.slots → m.number (m.kind i) ≡ i

-- catches of the slot go into this frame's report
abbrev pub is_caught_in : Slot → Bool
is_caught_in Clock = true
is_caught_in (Sense x) = false
is_caught_in (RelaySense x) = true
is_caught_in (Out w) = true
is_caught_in Report = false
is_caught_in (RelayReport s) = false

-- under each configuration a slot in which something is said is heard two subframes later or after that, and each two before the frame's end
-- or earlier, and what goes into a word that is said is heard when it is said, or earlier
pub record IsTimed (m : FlownMission) : Type 0 where
  pub run : (us : List ℕ) (w : ℕ) → IsConfigOf m us → w < m.words → m.due us (Out w) ≡ m.run_in us (m.task w)
  pub apart : (us : List ℕ) (k : Slot) → IsConfigOf m us → is_slot m k ≡ true → is_silent m us k ≡ false → m.due us k + 2 ≤ m.heard_in us k
  pub within : (us : List ℕ) (k : Slot) → IsConfigOf m us → is_slot m k ≡ true → m.heard_in us k + 2 ≤ m.period
  pub relayed : (us : List ℕ) (x : ℕ) → IsConfigOf m us → x < m.sensors → m.heard_in us (Sense x) ≤ m.due us (RelaySense x)
  pub agreed : (us : List ℕ) (x w : ℕ) → IsConfigOf m us → x < m.sensors → w < m.words → is_held m us w ≡ false →
      m.heard_in us (RelaySense x) ≤ m.due us (Out w)
  pub caught : (us : List ℕ) (k : Slot) → IsConfigOf m us → is_slot m k ≡ true → is_caught_in k ≡ true → m.heard_in us k ≤ m.due us Report
  pub reported : (us : List ℕ) (s : ℕ) → IsConfigOf m us → has m.units s ≡ true → m.heard_in us Report ≤ m.due us (RelayReport s)

-- two lists have the same words at these places
abbrev pub SameAt : (ℕ → Bool) → ℕ → List ℕ → List ℕ → Type 0
SameAt at count xs ys = (i : ℕ) → i < count → at i ≡ true → slice_index xs i ≡ slice_index ys i

-- a task reads the agreed words, this frame's words that it needs, which are polled before it runs, and words of the frame before
pub record IsRead (m : FlownMission) : Type 0 where
  pub reads : (w : ℕ) (ins ins' now now' last : List ℕ) → w < m.words → SameAt (λ x. true) m.sensors ins ins' → SameAt (m.needs w) m.words now now' →
      m.word w ins now last ≡ m.word w ins' now' last
  pub earlier : (w v : ℕ) → w < m.words → v < m.words → m.needs w v ≡ true → v < w
  pub polled : (us : List ℕ) (w v : ℕ) → IsConfigOf m us → w < m.words → v < m.words → is_held m us w ≡ false → m.needs w v ≡ true →
      m.heard_in us (Out v) ≤ m.due us (Out w)

-- units, tasks, words, sensors and frames are counted within the limits
pub record IsCounted (m : FlownMission) : Type 0 where
  pub units : (u : ℕ) → has m.units u ≡ true → u < unit_limit
  pub task : (w : ℕ) → w < m.words → m.task w < m.tasks
  pub tasks : m.tasks ≤ m.words
  pub words : m.words ≤ m.slots
  pub few_words : m.words ≤ word_limit
  pub sensors : m.sensors ≤ sensor_limit
  pub period : shortest_period ≤ m.period
  pub short : m.period ≤ longest_period
  pub frames : m.frames ≤ frame_limit
  pub starts : length m.starts ≡ m.words

-- each word that isn't held has at least three executors, all in the configuration, and one that is held has none
pub record HasExecutors (m : FlownMission) : Type 0 where
  pub three : (us : List ℕ) (w : ℕ) → IsConfigOf m us → w < m.words → is_held m us w ≡ false → 3 ≤ length (executors m us w)
  pub none : (us : List ℕ) (w u : ℕ) → IsConfigOf m us → w < m.words → is_held m us w ≡ true → m.executes us w u ≡ false

-- the clocks start near 0, and corrections and drifts are small
pub record AreClocksNear (m : FlownMission) : Type 0 where
  pub starts : (u : ℕ) → has m.units u ≡ true → IsWithin start_limit (m.offset u) (pos 0)
  pub limit : pos 0 ≤ℤ (m.skew +ℤ m.error)
  pub change : (m.skew +ℤ m.error +ℤ m.rate) ≤ℤ pos change_limit
  pub drifts : (u : ℕ) → has m.units u ≡ true → IsWithin m.rate (m.drift u) (pos 0)

-- all of it
pub record Fits (m : FlownMission) : Type 0 where
  pub numbered : IsNumbered m
  pub timed : IsTimed m
  pub read : IsRead m
  pub counted : IsCounted m
  pub executors : HasExecutors m
  pub config : IsConfigOf m m.units
  pub clocks : AreClocksNear m
