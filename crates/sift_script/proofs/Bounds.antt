-- No more entries are without a broken rule than there are units.
use Rattle.std.proofs.Common.{◌≡◌, ℕ, zero, suc, ◌<◌, ◌≤◌, List, [], ◌∷◌, length, get_or, true, false, eqb, eqb-true, eq-eqb, inl, inr, ap, sym, ◌∙◌, refl, arith}
use Rattle.std.proofs.lemmas.Bool.{cases_Bool, or_cases, or_left, or_parts, or_right}
use Rattle.std.proofs.lemmas.Map.Keys.{IsDistinct-from_apart}
use Rattle.std.proofs.lemmas.Map.Steps.{length-le_from_distinct_below}
use Rattle.std.specs.List.{list_any}
use Rattle.sift_base.specs.Units.{has}
use Rattle.sift_base.specs.Requirement.{AreMet}
use Rattle.sift_script.proofs.Views.{no_fault}
use Rattle.sift_script.specs.Rules.{entry_rules, fault_at, units_named}
use Rattle.sift_script.specs.Script.{Fault, FaultScript}

-- the unit that an entry names is among those named, at its place
unit_at : (faults : List Fault) (count i d : ℕ) (e : Fault) → i < count → count ≤ length faults → get_or (units_named faults count) i d ≡ (get_or faults i e).unit
unit_at [] count i d e low inside = absurd (omega arith)
unit_at (fault ∷ faults) zero i d e low inside = absurd (omega arith)
unit_at (fault ∷ faults) (suc count) zero d e low inside = refl
unit_at (fault ∷ faults) (suc count) (suc i) d e low inside = unit_at faults count i d e (omega arith) (omega arith)

-- as many units are named as entries
length-units_named : (faults : List Fault) (count : ℕ) → count ≤ length faults → length (units_named faults count) ≡ count
length-units_named [] zero inside = refl
length-units_named [] (suc count) inside = absurd (omega arith)
length-units_named (fault ∷ faults) zero inside = refl
length-units_named (fault ∷ faults) (suc count) inside = omega (arith, length-units_named faults count (omega arith))

-- a unit that a list doesn't have is at none of its places
has-not_at : (us : List ℕ) (u i d : ℕ) → has us u ≡ false → i < length us → eqb (get_or us i d) u ≡ false
has-not_at [] u i d none low = absurd (omega arith)
has-not_at (v ∷ us) u zero d none low = (or_parts (eqb v u) (has us u) none).0
has-not_at (v ∷ us) u (suc i) d none low = has-not_at us u i d (or_parts (eqb v u) (has us u) none).1 (omega arith)

-- a unit that a list has is at one of its places
has-at : (us : List ℕ) (u : ℕ) → has us u ≡ true → (i : ℕ) × (i < length us) × (get_or us i 0 ≡ u)
has-at [] u there = absurd cc
has-at (v ∷ us) u there = elim (cases_Bool (eqb v u)) [
  | inl same ↦ (0, omega arith, eqb-true v u same)
  | inr other ↦ let later = has-at us u (rw other at there) in (suc later.0, omega (arith, later.1), later.2)
]

module _ (script : FaultScript) (count : ℕ) (inside : count ≤ length script.faults) (met : (at : ℕ) → at < count → AreMet (entry_rules script at)) where
  -- the units that are named
  abbrev named : List ℕ
  named = units_named script.faults count

  -- no unit is named twice
  named_apart : (i j d : ℕ) → i < j → j < length named → eqb (get_or named i d) (get_or named j d) ≡ false
  named_apart i j d before low =
      let last : j < count = omega (arith, low, length-units_named script.faults count inside) in
      let early = units_named script.faults j in
      let unit = (fault_at script j).unit in
      let new : eqb (get_or early i d) unit ≡ false = has-not_at early unit i d (met j last).1.0 (omega (arith, before, last, inside, length-units_named script.faults j (omega arith))) in
      let one : get_or named i d ≡ get_or early i d =
      unit_at script.faults count i d no_fault (omega arith) inside ∙ sym (unit_at script.faults j i d no_fault before (omega arith)) in
      let two : get_or named j d ≡ unit = unit_at script.faults count j d no_fault last inside in
      ap (λ x. eqb x (get_or named j d)) one ∙ ap (λ y. eqb (get_or early i d) y) two ∙ new

  -- each unit that is named is one of the mission's
  named_there : (u : ℕ) → has named u ≡ true → u < script.layout.units
  named_there u there =
      let place = has-at named u there in
      let low : place.0 < count = omega (arith, place.1, length-units_named script.faults count inside) in
      omega (arith, (met place.0 low).0, unit_at script.faults count place.0 0 no_fault low inside, place.2)

-- a list has what it has, whichever side is compared
has-flip : (us : List ℕ) (u : ℕ) → list_any (eqb u) us ≡ true → has us u ≡ true
has-flip [] u there = there
has-flip (v ∷ us) u there = elim (or_cases (eqb u v) (list_any (eqb u) us) there) [
  | inl same ↦ or_left (eqb v u) (has us u) (eq-eqb v u (sym (eqb-true u v same)))
  | inr later ↦ or_right (eqb v u) (has us u) (has-flip us u later)
]

-- so many entries that meet all rules name as many units
pub entries_are_few : (script : FaultScript) (count : ℕ) → count ≤ length script.faults → ((at : ℕ) → at < count → AreMet (entry_rules script at)) → count ≤ script.layout.units
entries_are_few script count inside met =
    let us = units_named script.faults count in
    let distinct = IsDistinct-from_apart eqb us (named_apart script count inside met) in
    omega (
      arith,
      length-units_named script.faults count inside,
      length-le_from_distinct_below us script.layout.units distinct (λ u there. named_there script count inside met u (has-flip us u there)),
    )
