-- What holds of fault scripts.
use Rattle.std.specs.Prelude.{◌≡◌, ℕ, ◌<◌, ◌≤◌, ◌↔◌, ◌⊎◌, List, Some, None, true, false, sum, take}
use Rattle.sift_base.specs.Shapes.{AllShapes, first_word}
use Rattle.sift_base.specs.declared.slots.Slot.{Slot}
use Rattle.sift_script.specs.Faults.{is_same_slot, override_of, has_turned, storm_of, works}
use Rattle.sift_script.specs.Rules.{IsFirstBroken, IsGood}
use Rattle.sift_script.specs.Script.{Fault, FaultScript, outputs_of}
use Rattle.sift_script.specs.declared.script.StormEntry.{StormEntry}

-- in a good script for some units, one unit of the mission works in every frame
abbrev pub OneUnitIsSteady : Type 0
OneUnitIsSteady =
    (script : FaultScript) → IsGood script → 0 < script.layout.units → (u : ℕ) × (u < script.layout.units) × ((f : ℕ) → works script.faults u f ≡ true)

-- a unit that works in a frame has worked in each frame before it: faults are for good
abbrev pub FaultsAreForGood : Type 0
FaultsAreForGood = (faults : List Fault) (u f later : ℕ) → f ≤ later → works faults u later ≡ true → works faults u f ≡ true

-- what a unit says in a frame in which it works isn't changed
abbrev pub WorkingUnitsSayTheirWords : Type 0
WorkingUnitsSayTheirWords =
    (script : FaultScript) (u f : ℕ) (slot : Slot) (receiver : ℕ) → works script.faults u f ≡ true → override_of script u f slot receiver ≡ None

-- a unit that works in a frame hasn't turned
abbrev pub WorkingUnitsHaveNotTurned : Type 0
WorkingUnitsHaveNotTurned = (faults : List Fault) (u f : ℕ) → works faults u f ≡ true → has_turned faults u f ≡ false

-- in a good script a storm comes in a frame of the mission
abbrev pub StormsComeInTheMission : Type 0
StormsComeInTheMission =
    (script : FaultScript) (u : ℕ) (storm : StormEntry) → IsGood script → storm_of script.faults u ≡ Some storm → storm.from < script.frames

-- slots are compared whole: two are the same where they are one
abbrev pub SlotsAreComparedWhole : Type 0
SlotsAreComparedWhole = (one other : Slot) → (is_same_slot one other ≡ true) ↔ (one ≡ other)

-- an item counts the words of the tasks before its own as a mission does
abbrev pub WordsAreNumberedAlike : Type 0
WordsAreNumberedAlike = (shapes : AllShapes) (t : ℕ) → sum (take t (outputs_of shapes)) ≡ first_word shapes t

-- a script that breaks a rule has one first broken rule, at one entry, and one that meets all rules has none
abbrev pub OneBrokenRule : Type 0
OneBrokenRule =
    (script : FaultScript) (number at : ℕ) → IsFirstBroken script number at
    → (¬ IsGood script) × ((other place : ℕ) → IsFirstBroken script other place → (other ≡ number) × (place ≡ at))

-- each script meets all rules, or one is the first that it breaks, at a first entry
abbrev pub ScriptsAreAnswered : Type 0
ScriptsAreAnswered = (script : FaultScript) → IsGood script ⊎ ((number : ℕ) × (at : ℕ) × IsFirstBroken script number at)
