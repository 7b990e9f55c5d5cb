-- Which units work, by the script.
use Rattle.std.proofs.Common.{◌≡◌, ℕ, suc, ◌+◌, ◌<◌, ◌≤◌, List, [], ◌∷◌, length, map, take, get_or, Bool, true, false, not, eqb, leb, Option, Some, None, IfSome, inl, inr, ap, refl, arith}
use Rattle.std.proofs.lemmas.Bool.{and_cases, and_left, and_right, cases_Bool, or_from, or_parts, not-true}
use Rattle.std.proofs.lemmas.Bool.Decides.{nat_tests}
use Rattle.std.proofs.lemmas.List.{take_all}
use Rattle.std.proofs.lemmas.Option.{none-some, same_Some}
use Rattle.std.specs.Bool.{⊤}
use Rattle.std.specs.List.{list_any}
use Rattle.std.specs.Prelude.{◌==◌, ◌&&◌, nat_le, if◌then◌else◌, option_and_then}
use Rattle.sift_base.specs.Units.{has}
use Rattle.sift_script.specs.Faults.{changes_in, fault_of_unit, has_come, replacement_by, storm_from, works}
use Rattle.sift_script.specs.Laws.{FaultsAreForGood, OneUnitIsSteady, StormsComeInTheMission, WorkingUnitsHaveNotTurned, WorkingUnitsSayTheirWords}
use Rattle.sift_script.specs.declared.script.StormEntry.{StormEntry}
use Rattle.sift_script.specs.Rules.{IsGood}
use Rattle.sift_script.specs.Script.{Failing, Fault, FaultScript, changing, turning}
use Rattle.sift_script.proofs.Views.{no_fault}

-- the fault is unit u's, and has come by frame f
abbrev is_faulted_by : ℕ → ℕ → Fault → Bool
is_faulted_by u f fault = (fault.unit == u) && nat_le fault.from f

-- unit u has a fault that has come by frame f
abbrev is_faulty : List Fault → ℕ → ℕ → Bool
is_faulty faults u f = list_any (is_faulted_by u f) faults

-- a unit that no entry names is never faulty
unnamed_works : (faults : List Fault) (u f : ℕ) → has (map (λ fault. fault.unit) faults) u ≡ false → is_faulty faults u f ≡ false
unnamed_works [] u f none = refl
unnamed_works (fault ∷ faults) u f none =
    let parts = or_parts (eqb fault.unit u) (has (map (λ fault'. fault'.unit) faults) u) none in
    or_from (is_faulted_by u f fault) (is_faulty faults u f) (and_left (eqb fault.unit u) (leb fault.from f) parts.0) (unnamed_works faults u f parts.1)

-- the unit that the last entry leaves is named by none
steady_among : (script : FaultScript) (faults : List Fault) → script.faults ≡ faults → IsGood script → 0 < script.layout.units
    → (u : ℕ) × (u < script.layout.units) × ((f : ℕ) → works script.faults u f ≡ true)
steady_among script [] is good some = (0, some, λ f. rw is refl)
steady_among script (fault ∷ faults) is good some =
    let left = (good (length faults) (rw is (omega arith))).1.1.1.0 in
    let all : take (length faults + 1) script.faults ≡ script.faults = take_all (length faults + 1) script.faults (rw is (omega arith)) in
    (left.0, left.1, λ f. ap not (unnamed_works script.faults left.0 f (rw all at left.2)))

-- in a good script for some units, one of these works in every frame
pub one_unit_is_steady : OneUnitIsSteady
one_unit_is_steady script good some = steady_among script script.faults refl good some

-- a fault that hasn't come by a frame hasn't come before
not_come_before : (u f later : ℕ) (fault : Fault) → f ≤ later → is_faulted_by u later fault ≡ false → is_faulted_by u f fault ≡ false
not_come_before u f later fault before none = elim (and_cases (eqb fault.unit u) (leb fault.from later) none) [
  | inl other ↦ and_left (eqb fault.unit u) (leb fault.from f) other
  | inr after ↦ and_right (eqb fault.unit u) (leb fault.from f) (le_before fault.from f later before after)
]
  where
    le_before : (from f' later' : ℕ) → f' ≤ later' → leb from later' ≡ false → leb from f' ≡ false
    le_before from f' later' low none' = grind (arith, nat_tests)

-- a unit that isn't faulty wasn't before
not_faulty_before : (faults : List Fault) (u f later : ℕ) → f ≤ later → is_faulty faults u later ≡ false → is_faulty faults u f ≡ false
not_faulty_before [] u f later before none = refl
not_faulty_before (fault ∷ faults) u f later before none =
    let parts = or_parts (is_faulted_by u later fault) (is_faulty faults u later) none in
    or_from (is_faulted_by u f fault) (is_faulty faults u f) (not_come_before u f later fault before parts.0) (not_faulty_before faults u f later before parts.1)

-- a unit that works in a frame has worked in each frame before it
pub faults_are_for_good : FaultsAreForGood
faults_are_for_good faults u f later before working = ap not (not_faulty_before faults u f later before (not-true (is_faulty faults u later) working))

-- ---- words and storms

-- the fault, if there is one, hasn't come by frame f
abbrev HasNotCome : Option Fault → ℕ → Type 0
HasNotCome None f = ⊤
HasNotCome (Some fault) f = leb fault.from f ≡ false

-- the fault of a unit that works hasn't come
not_come : (faults : List Fault) (u f : ℕ) → is_faulty faults u f ≡ false → HasNotCome (fault_of_unit faults u) f
not_come [] u f none = tt
not_come (fault ∷ faults) u f none =
    let parts = or_parts (is_faulted_by u f fault) (is_faulty faults u f) none in
    elim (cases_Bool (eqb fault.unit u)) [
      | inl own ↦ rw own (rw own at parts.0)
      | inr other ↦ rw other (not_come faults u f parts.1)
    ]

-- nothing comes of a fault that hasn't come
nothing_yet : {A : Type 0} (fault : Option Fault) (f : ℕ) (of : Fault → Option A) → HasNotCome fault f
    → option_and_then (λ fault'. if nat_le fault'.from f then of fault' else None) fault ≡ None
nothing_yet None f of none = refl
nothing_yet (Some fault) f of none = rw none refl

-- a storm that hasn't come turns no unit
no_storm : (fault : Option Fault) (f : ℕ) → HasNotCome fault f → has_come (option_and_then (λ fault'. storm_from fault'.from fault'.plan) fault) f ≡ false
no_storm None f none = refl
no_storm (Some fault) f none = storm_later fault.from fault.plan none
  where
    storm_later : (from : ℕ) (plan : Failing) → leb from f ≡ false → has_come (storm_from from plan) f ≡ false
    storm_later from (changing changes) later = refl
    storm_later from (turning number strays) later = later

-- what a unit says in a frame in which it works isn't changed
pub working_units_say_their_words : WorkingUnitsSayTheirWords
working_units_say_their_words script u f slot receiver working =
    nothing_yet (fault_of_unit script.faults u) f (λ fault. replacement_by script.outputs f slot receiver (changes_in fault.plan))
    (not_come script.faults u f (not-true (is_faulty script.faults u f) working))

-- a unit that works in a frame hasn't turned by then
pub working_units_have_not_turned : WorkingUnitsHaveNotTurned
working_units_have_not_turned faults u f working = no_storm (fault_of_unit faults u) f (not_come faults u f (not-true (is_faulty faults u f) working))

-- the fault of a unit comes in a frame of the mission, where each does
comes_below : (faults : List Fault) (u frames : ℕ) (d : Fault) → ((at : ℕ) → at < length faults → (get_or faults at d).from < frames)
    → IfSome (fault_of_unit faults u) (λ fault. fault.from < frames)
comes_below [] u frames d each = tt
comes_below (fault ∷ faults) u frames d each = elim (cases_Bool (eqb fault.unit u)) [
  | inl own ↦ rw own (each 0 (omega arith))
  | inr other ↦ rw other (comes_below faults u frames d (λ at low. each (suc at) (omega arith)))
]

-- the storm of a fault comes when the fault does
storm_comes : (fault : Option Fault) (frames : ℕ) (storm : StormEntry) → IfSome fault (λ f. f.from < frames) →
    option_and_then (λ f. storm_from f.from f.plan) fault ≡ Some storm → storm.from < frames
storm_comes None frames storm below is = absurd (none-some _ is)
storm_comes (Some fault) frames storm below is = of_plan fault.plan below is
  where
    of_plan : (plan : Failing) → fault.from < frames → storm_from fault.from plan ≡ Some storm → storm.from < frames
    of_plan (changing changes) low is' = absurd (none-some _ is')
    of_plan (turning n s) low is' = let same : fault.from ≡ storm.from = ap (λ (s : StormEntry). s.from) (same_Some _ _ is') in omega (arith, same, low)

-- in a good script each storm comes in a frame of the mission
pub storms_come_in_the_mission : StormsComeInTheMission
storms_come_in_the_mission script u storm good is =
    storm_comes (fault_of_unit script.faults u) script.frames storm
    (comes_below script.faults u script.frames no_fault (λ at low. (good at low).1.1.0)) is
