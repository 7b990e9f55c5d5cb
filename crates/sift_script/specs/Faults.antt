-- Which units work, are faulty and have turned in a frame, and what a faulty unit says in place of its own words.
use Rattle.std.specs.Prelude.{ℕ, List, Option, Some, None, Bool, false, ◌&&◌, ◌==◌, nat_le, not, ◌+◌, [], true, if◌then◌else◌, sum, take}
use Rattle.std.specs.List.{find, list_any}
use Rattle.std.specs.Option.{option_and_then, option_map, option_map_or}
use Rattle.sift_base.specs.Units.{has}
use Rattle.sift_base.specs.declared.slots.Slot.{Slot}
use Rattle.sift_base.specs.declared.slots.Slot.TheVariants as slot
use Rattle.sift_script.specs.Script.{Failing, Fault, changing, turning, Change, FaultScript}
use Rattle.sift_script.specs.declared.script.SlotKind.{SlotKind}
use Rattle.sift_script.specs.declared.script.SlotKind.TheVariants.{Clock, Sense, Relay, Out, Report, RelayReport}
use Rattle.sift_script.specs.declared.script.StormEntry.{StormEntry}

-- ---- faulty and working

-- unit u works in frame f: it has no fault that has come
abbrev pub works : List Fault → ℕ → ℕ → Bool
works faults u f = not (list_any (λ fault. (fault.unit == u) && nat_le fault.from f) faults)

-- ---- turned

-- the fault of unit u, if it has one
abbrev pub fault_of_unit : List Fault → ℕ → Option Fault
fault_of_unit faults u = find (λ fault. fault.unit == u) faults

-- the storm by which a unit turns from a frame on
abbrev pub storm_from : ℕ → Failing → Option StormEntry
storm_from from (changing changes) = None
storm_from from (turning number strays) = Some (record { from = from; number = number; strays = strays })

-- the storm of unit u, if it has one
abbrev pub storm_of : List Fault → ℕ → Option StormEntry
storm_of faults u = option_and_then (λ fault. storm_from fault.from fault.plan) (fault_of_unit faults u)

-- the storm, if there is one, has come by frame f
abbrev pub has_come : Option StormEntry → ℕ → Bool
has_come None f = false
has_come (Some storm) f = nat_le storm.from f

-- unit u has turned by frame f: it has a storm, and that has come
abbrev pub has_turned : List Fault → ℕ → ℕ → Bool
has_turned faults u f = has_come (storm_of faults u) f

-- ---- what a faulty unit says in place of its own words

-- the slot of a kind: an index is a sensor, a task or a unit, and a word is one of that task, as the words are numbered in the order of the tasks
abbrev pub slot_by : List ℕ → SlotKind → ℕ → ℕ → Slot
slot_by outputs Clock index word = slot.Clock
slot_by outputs Sense index word = slot.Sense index
slot_by outputs Relay index word = slot.RelaySense index
slot_by outputs Out index word = slot.Out (sum (take index outputs) + word)
slot_by outputs Report index word = slot.Report
slot_by outputs RelayReport index word = slot.RelayReport index

-- two slots are one
abbrev pub is_same_slot : Slot → Slot → Bool
is_same_slot slot.Clock slot.Clock = true
is_same_slot (slot.Sense x) (slot.Sense y) = x == y
is_same_slot (slot.RelaySense x) (slot.RelaySense y) = x == y
is_same_slot (slot.Out v) (slot.Out w) = v == w
is_same_slot slot.Report slot.Report = true
is_same_slot (slot.RelayReport u) (slot.RelayReport v) = u == v
is_same_slot _ _ = false

-- the change is about what is said to a receiver in a slot of frame f: in its own frame, or in each where it names none
abbrev pub fits : List ℕ → ℕ → Slot → ℕ → Change → Bool
fits outputs f place receiver change =
    is_same_slot (slot_by outputs change.kind change.index change.word) place
    && (has change.to receiver && option_map_or (λ g. g == f) change.frame true)

-- the changes of a way of failing
abbrev pub changes_in : Failing → List Change
changes_in (changing changes) = changes
changes_in (turning number strays) = []

-- what is said to a receiver in a slot of frame f by the first of these changes that fits, and None where none fits
abbrev pub replacement_by : List ℕ → ℕ → Slot → ℕ → List Change → Option (Option ℕ)
replacement_by outputs f place receiver changes = option_map (λ change. change.value) (find (fits outputs f place receiver) changes)

-- what unit u says to a receiver in a slot of frame f in place of its own word, where it says something else: once its fault has come
abbrev pub override_of : FaultScript → ℕ → ℕ → Slot → ℕ → Option (Option ℕ)
override_of script u f place receiver =
    option_and_then (λ fault. if nat_le fault.from f then replacement_by script.outputs f place receiver (changes_in fault.plan) else None)
    (fault_of_unit script.faults u)
