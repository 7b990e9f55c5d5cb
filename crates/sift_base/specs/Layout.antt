-- Slots, and their numbers in a mission's layout. A slot is a place for one word, from one unit to another in one frame.
use Rattle.std.specs.Prelude.{◌≡◌, ℕ, ◌+◌, ◌-◌, ◌*◌, ◌<◌, ◌≤◌, nat_eq, nat_lt, if◌then◌else◌, ⊤}
use Rattle.sift_base.specs.Units.{unit_limit}
use Rattle.sift_base.specs.declared.slots.Layout.{Layout}
use Rattle.sift_base.specs.declared.slots.Slot.{Slot}
use Rattle.sift_base.specs.declared.slots.Slot.TheVariants.{Clock, Sense, RelaySense, Out, Report, RelayReport}

-- the least number of units
abbrev pub least_units : ℕ
least_units = 4

-- the most sensors of a mission
abbrev pub sensor_limit : ℕ
sensor_limit = 8

-- the most output words of all tasks of a mission
abbrev pub word_limit : ℕ
word_limit = 64

-- a layout that a mission may have: 4 to 8 units, at most 8 sensors, at most 64 output words
pub record IsLayout (layout : Layout) : Type 0 where
  pub enough_units : least_units ≤ layout.units
  pub few_units : layout.units ≤ unit_limit
  pub few_sensors : layout.sensors ≤ sensor_limit
  pub few_words : layout.words ≤ word_limit

-- the layout has the slot: its sensor, word or unit is there
abbrev pub IsSlot : Layout → Slot → Type 0
IsSlot layout Clock = ⊤
IsSlot layout (Sense x) = x < layout.sensors
IsSlot layout (RelaySense x) = x < layout.sensors
IsSlot layout (Out w) = w < layout.words
IsSlot layout Report = ⊤
IsSlot layout (RelayReport u) = u < layout.units

-- how many slots a layout has: the clock, two for a sensor, one for a word, the report, and one for each unit's report
abbrev pub slot_count : Layout → ℕ
slot_count layout = 2 + 2 * layout.sensors + layout.words + layout.units

-- the number of a slot: the clock, the sensors, their relays, the words, the report, and the relayed reports, in this order
abbrev pub slot_number : Layout → Slot → ℕ
slot_number layout Clock = 0
slot_number layout (Sense x) = 1 + x
slot_number layout (RelaySense x) = 1 + layout.sensors + x
slot_number layout (Out w) = 1 + 2 * layout.sensors + w
slot_number layout Report = 1 + 2 * layout.sensors + layout.words
slot_number layout (RelayReport u) = 2 + 2 * layout.sensors + layout.words + u

-- the slot of a number, where `first` is that of the first word
abbrev pub slot_kind : Layout → ℕ → Slot
slot_kind layout i =
    let first = 1 + 2 * layout.sensors in
    if nat_eq i 0 then Clock
    else if nat_lt i (1 + layout.sensors) then Sense (i - 1)
    else if nat_lt i first then RelaySense (i - (1 + layout.sensors))
    else if nat_lt i (first + layout.words) then Out (i - first)
    else if nat_eq i (first + layout.words) then Report
    else RelayReport (i - (first + layout.words + 1))

-- ---- laws

-- the number of each slot of a layout is below the count of its slots
abbrev pub SlotNumbersAreBelow : Type 0
SlotNumbersAreBelow = (layout : Layout) (slot : Slot) → IsSlot layout slot → slot_number layout slot < slot_count layout

-- two slots of a layout with one number are one slot
abbrev pub SlotNumbersDiffer : Type 0
SlotNumbersDiffer = (layout : Layout) (one other : Slot) → IsSlot layout one → IsSlot layout other → slot_number layout one ≡ slot_number layout other → one ≡ other

-- the slot of a slot's number is the slot, and each number below the count is that of its slot
abbrev pub NumbersHaveTheirSlots : Type 0
NumbersHaveTheirSlots = (layout : Layout) →
    ((slot : Slot) → IsSlot layout slot → slot_kind layout (slot_number layout slot) ≡ slot)
    × ((i : ℕ) → i < slot_count layout → IsSlot layout (slot_kind layout i) × (slot_number layout (slot_kind layout i) ≡ i))
