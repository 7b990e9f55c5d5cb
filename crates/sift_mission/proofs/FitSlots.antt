-- The slots of a mission whose parts fit: each has a number of its own.
use Rattle.std.proofs.Common.{◌≡◌, ◌<◌, ◌≤◌, true, refl, arith}
use Rattle.std.proofs.lemmas.Bool.{lt-ltb, ltb-true}
use Rattle.sift_base.specs.Layout.{IsSlot, slot_count, slot_number}
use Rattle.sift_base.specs.declared.slots.Slot.{Slot}
use Rattle.sift_base.specs.declared.slots.Slot.TheVariants.{Clock, Sense, RelaySense, Out, Report, RelayReport}
use Rattle.sift_base.specs.Layout.{slot_kind}
use Rattle.sift_base.specs.laws.Numbers.{kind-of-number, number-of-kind}
use Rattle.sift_base.specs.laws.Ranges.{has-range, range-has}
use Rattle.sift_mission.specs.Data.{MissionData}
use Rattle.sift_mission.specs.Fits.{IsNumbered}
use Rattle.sift_mission.specs.Flown.{flown}
use Rattle.sift_mission.specs.PartsFit.{PartsFit}
use Rattle.sift_mission.specs.Slots.{is_slot}

module _ (d : MissionData) (fit : PartsFit d) where
  -- the mission's slots are those of its layout
  pub is-slot : (k : Slot) → is_slot (flown d) k ≡ true → IsSlot d.layout k
  is-slot Clock there = tt
  is-slot (Sense x) there = ltb-true x d.layout.sensors there
  is-slot (RelaySense x) there = ltb-true x d.layout.sensors there
  is-slot (Out w) there = ltb-true w d.layout.words there
  is-slot Report there = tt
  is-slot (RelayReport s) there = let low = range-has 0 d.units s there in omega (arith, low.1, fit.layout.units)

  -- and all of them
  pub slot-is : (k : Slot) → IsSlot d.layout k → is_slot (flown d) k ≡ true
  slot-is Clock there = refl
  slot-is (Sense x) there = lt-ltb x d.layout.sensors there
  slot-is (RelaySense x) there = lt-ltb x d.layout.sensors there
  slot-is (Out w) there = lt-ltb w d.layout.words there
  slot-is Report there = refl
  slot-is (RelayReport s) there = has-range 0 d.units s (omega arith) (omega (arith, there, fit.layout.units))

  -- a slot's number is below the count
  number-below : (k : Slot) → IsSlot d.layout k → slot_number d.layout k < slot_count d.layout
  number-below Clock there = omega arith
  number-below (Sense x) there = omega (arith, there)
  number-below (RelaySense x) there = omega (arith, there)
  number-below (Out w) there = omega (arith, there)
  number-below Report there = omega arith
  number-below (RelayReport s) there = omega (arith, there)

  -- a program's words are no more than may be
  pub few-words : d.layout.words ≤ 64
  few-words = let words = fit.layout.words in let starts = fit.program.a_start_each in let few = fit.program.few_words in omega arith

  -- in a mission whose parts fit each slot has a number of its own, and each number below their count its slot
  pub numbered : IsNumbered (flown d)
  numbered = record {
    few =
        let units = fit.layout.units in let sensors = fit.layout.sensors in
        let few_units = fit.limits.few_units in let few_sensors = fit.limits.few_sensors in
        let few_words = few-words in omega arith;
    low = λ k there. number-below k (is-slot k there);
    back = λ k there. kind-of-number d.layout k (is-slot k there);
    slot = λ i low. slot-is (slot_kind d.layout i) (number-of-kind d.layout i low).0;
    there = λ i low. (number-of-kind d.layout i low).1;
  }
