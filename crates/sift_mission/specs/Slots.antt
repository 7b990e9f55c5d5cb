-- Who says which slot to whom under a configuration, and when.
use Rattle.std.specs.Prelude.{◌≡◌, ℕ, ◌+◌, ◌*◌, ◌<◌, ◌≤◌, List, Bool, true, false, not, ◌&&◌, nat_eq, nat_lt, Option, Some}
use Rattle.std.specs.List.{filter}
use Rattle.std.specs.Option.{option_map_or}
use Rattle.sift_base.specs.Units.{has, unit_limit}
use Rattle.sift_base.specs.declared.slots.Slot.{Slot}
use Rattle.sift_base.specs.declared.slots.Slot.TheVariants.{Clock, Sense, RelaySense, Out, Report, RelayReport}
use Rattle.sift_config.specs.Config.{reader_of}
use Rattle.sift_mission.specs.Data.{FlownMission}

-- the mission has the slot, as it has the clock and the report; slots that it hasn't may share a number with one that it has
abbrev pub is_slot : FlownMission → Slot → Bool
is_slot m (Sense x) = nat_lt x m.sensors
is_slot m (RelaySense x) = nat_lt x m.sensors
is_slot m (Out w) = nat_lt w m.words
is_slot m (RelayReport s) = has m.units s
is_slot m _ = true

-- the executors of a word: the units of the configuration that run its task, in ascending order
abbrev pub executors : FlownMission → List ℕ → ℕ → List ℕ
executors m us w = filter (m.executes us w) us

-- under a configuration word w is held: its task is shed, so the word stays what it was in the frame before
abbrev pub is_held : FlownMission → List ℕ → ℕ → Bool
is_held m us w = has (m.shed us) (m.task w)

-- under a configuration nothing is said or heard in the slot: its word is held
abbrev pub is_silent : FlownMission → List ℕ → Slot → Bool
is_silent m us Clock = false
is_silent m us (Sense x) = false
is_silent m us (RelaySense x) = false
is_silent m us (Out w) = is_held m us w
is_silent m us Report = false
is_silent m us (RelayReport s) = false

-- what sets the sender p and the receiver q of a slot apart from other units: the reader says a sensor's word and the others relay it;
-- executors say a task's words; a report is relayed by and to units other than the one that it is of; the clock and the report are all units'
abbrev pub is_senders : FlownMission → List ℕ → Slot → ℕ → ℕ → Bool
is_senders m us (Sense x) p q = nat_eq p (reader_of us x)
is_senders m us (RelaySense x) p q = not (nat_eq p (reader_of us x))
is_senders m us (Out w) p q = m.executes us w p
is_senders m us (RelayReport s) p q = has us s && (not (nat_eq p s) && not (nat_eq q s))
is_senders m us _ p q = true

-- under a configuration unit p says the slot to unit q, and q hears it from p: both are in it, and they are different units
abbrev pub calls : FlownMission → List ℕ → Slot → ℕ → ℕ → Bool
calls m us k p q = is_slot m k && (has us p && (has us q && (not (nat_eq p q) && is_senders m us k p q)))

-- the stamp that a slot's words carry in a frame: the subframe in which it is said, counted from the mission's start, and one more
abbrev pub stamp_of : FlownMission → List ℕ → ℕ → Slot → ℕ
stamp_of m us f k = f * m.period + m.due us k + 1

-- the subframe in which a slot is heard in a frame, counted from the mission's start
abbrev pub heard_at : FlownMission → List ℕ → ℕ → Slot → ℕ
heard_at m us f k = f * m.period + m.heard_in us k

-- the frame from which on a unit is stray, if there is one, has come by frame f
abbrev pub turned_by : Option ℕ → ℕ → Bool
turned_by storm f = option_map_or (λ from. not (nat_lt f from)) storm false

-- unit u has turned stray by frame f
abbrev pub has_turned : FlownMission → ℕ → ℕ → Bool
has_turned m u f = turned_by (m.storm u) f

-- each storm comes in a frame of the mission
abbrev pub StormsCome : FlownMission → Type 0
StormsCome m = (u from : ℕ) → m.storm u ≡ Some from → from < m.frames

-- of the units from a number on the first that passes a test, or the count of all units, where none does
pub record IsFirstFrom (test : ℕ → Bool) (from first : ℕ) : Type 0 where
  pub after : from ≤ first
  pub within : first ≤ unit_limit
  pub passed : (p : ℕ) → from ≤ p → p < first → test p ≡ false
  pub here : first < unit_limit → test first ≡ true

-- no unit says a slot to itself
abbrev pub NothingIsSaidToItself : Type 0
NothingIsSaidToItself = (m : FlownMission) (us : List ℕ) (k : Slot) (u : ℕ) → calls m us k u u ≡ false
