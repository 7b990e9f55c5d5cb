-- The rules of a fault script, one predicate a rule, and the first rule that a script breaks.
use Rattle.std.specs.Prelude.{◌≡◌, ℕ, ◌+◌, ◌<◌, ◌≤◌, List, [], ◌∷◌, false, length, map, take, slice_index, slice_index_or, IfSome, ⊤}
use Rattle.std.specs.List.{All}
use Rattle.sift_base.specs.Requirement.{Requirement, AreMet, IsFirstRefused}
use Rattle.sift_base.specs.Units.{has, IsAscending}
use Rattle.sift_script.specs.Faults.{changes_in}
use Rattle.sift_script.specs.Script.{Change, Fault, FaultScript, changing}
use Rattle.sift_script.specs.declared.script.SlotKind.{SlotKind}
use Rattle.sift_script.specs.declared.script.SlotKind.TheVariants.{Sense, Relay, Out, RelayReport}

-- the fault of an entry, and past the list's end one that changes nothing
abbrev pub fault_at : FaultScript → ℕ → Fault
fault_at script at = slice_index_or script.faults at (record { unit = 0; from = 0; plan = changing [] })

-- the units that the first entries name, so many
abbrev pub units_named : List Fault → ℕ → List ℕ
units_named faults count = map (λ fault. fault.unit) (take count faults)

-- ---- one predicate a rule

-- the entry's unit is one of the mission's
abbrev pub HasUnit : FaultScript → ℕ → Type 0
HasUnit script at = (fault_at script at).unit < script.layout.units

-- no earlier entry names the entry's unit
abbrev pub HasNewUnit : FaultScript → ℕ → Type 0
HasNewUnit script at = has (units_named script.faults at) (fault_at script at).unit ≡ false

-- the entry's unit fails in a frame of the mission
abbrev pub FailsInMission : FaultScript → ℕ → Type 0
FailsInMission script at = (fault_at script at).from < script.frames

-- some unit of the mission is named neither by the entry nor by an earlier one
abbrev pub LeavesAUnit : FaultScript → ℕ → Type 0
LeavesAUnit script at = (u : ℕ) × (u < script.layout.units) × (has (units_named script.faults (at + 1)) u ≡ false)

-- the sensor, the task and its word, or the unit that a kind of slot speaks of is one of the mission's; the clock and the report speak of none
abbrev pub HasPlaceBy : FaultScript → SlotKind → ℕ → ℕ → Type 0
HasPlaceBy script Sense index word = index < script.layout.sensors
HasPlaceBy script Relay index word = index < script.layout.sensors
HasPlaceBy script Out index word = (index < length script.outputs) × (word < slice_index script.outputs index)
HasPlaceBy script RelayReport index word = index < script.layout.units
HasPlaceBy script _ index word = ⊤

-- what a change is about is there: its slot, and the frame that it names, if it does, which is one of the mission's in which the unit is faulty
abbrev pub IsThere : FaultScript → ℕ → Change → Type 0
IsThere script from change = HasPlaceBy script change.kind change.index change.word × IfSome change.frame (λ f. (from ≤ f) × (f < script.frames))

-- what each change of the entry is about is there
abbrev pub HasPlaces : FaultScript → ℕ → Type 0
HasPlaces script at = All (IsThere script (fault_at script at).from) (changes_in (fault_at script at).plan)

-- receivers of what a unit says among so many: there are some, they ascend strictly, and each is another of these units
pub record AreReceivers (units unit : ℕ) (to : List ℕ) : Type 0 where
  pub some : 0 < length to
  pub ascend : IsAscending to
  pub inside : All (λ receiver. receiver < units) to
  pub others : has to unit ≡ false

-- each change of the entry is for receivers of what its unit says
abbrev pub HasReceivers : FaultScript → ℕ → Type 0
HasReceivers script at =
    All (λ change. AreReceivers script.layout.units (fault_at script at).unit change.to) (changes_in (fault_at script at).plan)

-- ---- all of them

-- the rules of an entry, with their numbers, in the order in which it is tested: each for all changes of the entry before the next
abbrev pub entry_rules : FaultScript → ℕ → List Requirement
entry_rules script at =
    (1, HasUnit script at) ∷ (2, HasNewUnit script at) ∷ (3, FailsInMission script at) ∷ (4, LeavesAUnit script at) ∷ (5, HasPlaces script at)
    ∷ (6, HasReceivers script at) ∷ []

-- the script meets all rules, at each entry
abbrev pub IsGood : FaultScript → Type 0
IsGood script = (at : ℕ) → at < length script.faults → AreMet (entry_rules script at)

-- this is the first entry at which the script breaks a rule, and the number of the first one there
abbrev pub IsFirstBroken : FaultScript → (number at : ℕ) → Type 0
IsFirstBroken script number at = IsFirstRefused (length script.faults) (entry_rules script) number at
