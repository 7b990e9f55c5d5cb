-- The storms of a document are those of the mission that it states.
use Rattle.std.proofs.Common.{◌≡◌, ◌==◌, ◌⊎◌, inl, inr, ℕ, zero, suc, List, [], ◌∷◌, Bool, true, false, map, take, Option, Some, None, refl, sym, ap, ◌∙◌, arith}
use Rattle.std.proofs.lemmas.Bool.{or_parts}
use Rattle.std.proofs.lemmas.Bool.Decides.{nat_tests}
use Rattle.std.proofs.lemmas.List.{length-map}
use Rattle.std.proofs.lemmas.Option.{get_or_from_slice_get, slice_get-map, slice_get_within}
use Rattle.std.specs.List.{slice_get}
use Rattle.std.specs.Prelude.{option_map, unwrap_or, codes}
use Rattle.toml.specs.Data.{Members, get_member}
use Rattle.sift_base.specs.Units.{has}
use Rattle.sift_script.specs.Faults.{storm_from, storm_of}
use Rattle.sift_script.specs.Rules.{fault_at}
use Rattle.sift_script.specs.Script.{Change, Failing, Fault, FaultScript, changing, turning}
use Rattle.sift_script.specs.declared.script.StormEntry.{StormEntry}
use Rattle.sift_document.specs.Rules.{HoldsOf}
use Rattle.sift_document.specs.Document.{tables_in}
use Rattle.sift_sections.specs.Fault.{fault_in, from_of, stated_storm, unit_of}
use Rattle.sift_sections.specs.laws.Named.{failing_from, IsHeadless, BreaksHeads}
use Rattle.sift_scenario.specs.Laws.{IsStormOf, StormsAreStated}
use Rattle.sift_scenario.proofs.Themes.{kept_themes}

-- ---- one fault

-- a number that is there is the one that is taken
taken : (o : Option ℕ) → (o ≡ None → ⊥) → o ≡ Some (unwrap_or o 0)
taken None some = absurd (some refl)
taken (Some n) some = refl

-- what comes of a fault is a storm only where it states one
stated_by :
    (stated : Option (Option Failing)) (changes : List Change) (first : ℕ) (storm : StormEntry)
    → storm_from first (failing_from (unwrap_or stated None) changes) ≡ Some storm
    → (first ≡ storm.from) × (stated ≡ Some (Some (turning storm.number storm.strays)))
stated_by None changes first storm is = cc
stated_by (Some None) changes first storm is = cc
stated_by (Some (Some (changing others))) changes first storm is = cc
stated_by (Some (Some (turning n s))) changes first storm is =
    let same : (let t : StormEntry = record { from = first; number = n; strays = s } in t) ≡ storm = cc is in (
      ap (λ (t : StormEntry). t.from) same,
      ap (λ (t : StormEntry). Some (Some (turning t.number t.strays))) same,
    )

-- a fault with a unit and a first frame whose storm this is
storm_here :
    (fault : Members) (u : ℕ) (storm : StormEntry) → ¬ IsHeadless fault → ((fault_in fault).unit == u) ≡ true
    → storm_from (fault_in fault).from (fault_in fault).plan ≡ Some storm → IsStormOf u storm fault
storm_here fault u storm headed own is =
    let stated = stated_by (stated_storm fault) _ (fault_in fault).from storm is in
    let unit : unwrap_or (unit_of fault) 0 ≡ u = grind (arith, nat_tests) in record {
      unit = taken (unit_of fault) (λ none. headed (inl none)) ∙ ap (λ n. Some n) unit;
      comes = taken (from_of fault) (λ none. headed (inr none)) ∙ ap (λ n. Some n) stated.0;
      turns = stated.1;
    }

-- ---- from the mission to the document

-- the storm of a unit is that of the first fault, where this is the unit's, and else that of the others
by_first :
    (tables : List Members) (table : Members) (u : ℕ) (storm : StormEntry) (b : Bool) → ((fault_in table).unit == u) ≡ b
    → storm_of (map fault_in (table ∷ tables)) u ≡ Some storm
    → ((b ≡ true) × (storm_from (fault_in table).from (fault_in table).plan ≡ Some storm)) ⊎ (storm_of (map fault_in tables) u ≡ Some storm)
by_first tables table u storm true own is = inl (refl, rw own at is)
by_first tables table u storm false other is = inr (rw other at is)

-- a storm of the mission is one of these faults
found :
    (tables : List Members) (u : ℕ) (storm : StormEntry) → ((place : ℕ) → ¬ BreaksHeads tables place)
    → storm_of (map fault_in tables) u ≡ Some storm → (place : ℕ) × HoldsOf tables place (IsStormOf u storm)
found [] u storm headed is = cc
found (table ∷ tables) u storm headed is =
    elim (by_first tables table u storm ((fault_in table).unit == u) refl is) [
      | inl here ↦ (
        0,
        record {
          entry = table;
          there = refl;
          holds = storm_here table u storm (λ none. headed 0 (record { entry = table; there = refl; holds = none })) here.0 here.1;
        },
      )
      | inr later ↦ let rest =
          found tables u storm (λ place none. headed (suc place) (record { entry = none.entry; there = none.there; holds = none.holds })) later in
          (suc rest.0, record { entry = rest.1.entry; there = rest.1.there; holds = rest.1.holds })
    ]

-- ---- from the document to the mission

-- such a fault is of its unit, and its storm is this
module _ (fault : Members) (u : ℕ) (storm : StormEntry) (own : IsStormOf u storm fault) where
  unit_is : (fault_in fault).unit ≡ u
  unit_is = ap (λ o. unwrap_or o 0) own.unit

  storm_is : storm_from (fault_in fault).from (fault_in fault).plan ≡ Some storm
  storm_is = rw (own.comes, own.turns) refl

-- no fault before it names its unit, so it is the unit's storm
kept :
    (tables : List Members) (u : ℕ) (storm : StormEntry) (place : ℕ) (fault : Members) → slice_get tables place ≡ Some fault → IsStormOf u storm fault
    → has (map (λ f. f.unit) (take place (map fault_in tables))) u ≡ false → storm_of (map fault_in tables) u ≡ Some storm
kept [] u storm zero fault there stated new = cc
kept [] u storm (suc place) fault there stated new = cc
kept (table ∷ tables) u storm zero fault there stated new =
    let same : fault ≡ table = cc there in
    let own : ((fault_in table).unit == u) ≡ true = rw (← same, unit_is fault u storm stated) (grind (arith, nat_tests)) in
    rw own (ap (λ (f : Members). storm_from (fault_in f).from (fault_in f).plan) (sym same) ∙ storm_is fault u storm stated)
kept (table ∷ tables) u storm (suc place) fault there stated new =
    let parts = or_parts ((fault_in table).unit == u) (has (map (λ f. f.unit) (take place (map fault_in tables))) u) new in
    rw parts.0 (kept tables u storm place fault there stated parts.1)

-- ---- both

-- the mission that a document states has a storm of a unit exactly where a fault of the document states it
pub stated_storms : StormsAreStated
stated_storms document d u storm is =
    let tables = tables_in (get_member (codes "fault") document) in
    let themes = kept_themes document d.units is.stated.units is.stated.lawful in
    let faults : d.script.faults ≡ map fault_in tables = ap (λ (s : FaultScript). s.faults) is.stated.script in (
      λ has. found tables u storm themes.1.1.1.1.1.0.1.0 (ap (λ (fs : List Fault). storm_of fs u) (sym faults) ∙ has),
      λ states.
          let low = slice_get_within tables states.0 states.1.entry states.1.there in
          let at : slice_get (map fault_in tables) states.0 ≡ Some (fault_in states.1.entry) =
          slice_get-map fault_in tables states.0 ∙ ap (option_map fault_in) states.1.there in
          let unit : (fault_at d.script states.0).unit ≡ u =
          ap (λ (fs : List Fault). (fault_at (record d.script { faults = fs }) states.0).unit) faults
          ∙ ap (λ (f : Fault). f.unit) (get_or_from_slice_get (map fault_in tables) states.0 (fault_in states.1.entry) (record { unit = 0; from = 0; plan = changing [] }) at)
          ∙ unit_is states.1.entry u storm states.1.holds in
          let new = (is.good_script states.0 (rw (faults, length-map) low)).1.0 in
          ap (λ (fs : List Fault). storm_of fs u) faults
          ∙ kept tables u storm states.0 states.1.entry states.1.there states.1.holds (rw (← faults, ← unit) new),
    )
