-- Premises that all calm missions meet.
use Rattle.std.proofs.Common.{false, zero, suc, inl, inr, ◌≡◌, ℕ, ◌+◌, ◌<◌, ◌≤◌, List, [], ◌∷◌, length, true, refl, ap, arith, ltb-true, slice_index, subst}
use Rattle.std.specs.List.{filter}
use Rattle.std.proofs.lemmas.Int.{ints}
use Rattle.std.specs.Prelude.{not, nat_lt, ◌&&◌, Some, None, if◌then◌else◌}
use Rattle.std.proofs.lemmas.Bool.{cases_Bool, lt-ltb}
use Rattle.sift_base.specs.Units.{has, HasMargin}
use Rattle.sift_base.specs.declared.slots.Slot.{Slot}
use Rattle.sift_base.specs.declared.slots.Slot.TheVariants.{Clock, Sense, RelaySense, Out, Report, RelayReport}
use Rattle.sift_base.specs.laws.ReadBack.{false_last}
use Rattle.sift_mission.specs.Slots.{is_slot, turned_by}
use Rattle.sift_mission.specs.Data.{IsConfigOf}
use Rattle.sift_mission.specs.Fits.{Fits, IsNumbered, IsRead, is_caught_in, HasExecutors}
use Rattle.sift_mission.specs.Premises.{IsFlyable}
use Rattle.sift_flight.specs.Figures.{config_at, HasMarginAt}
use Rattle.sift_flight.specs.Flight.{flight_of}
use Rattle.sift_flight.specs.Calm.{Calm, four_units, due_in, heard_in, mission_of}
use Rattle.sift_flight.specs.CalmFlight.{account_of, core_of}
use Rattle.sift_flight.proofs.CalmStages.{IsPlain}
use Rattle.sift_flight.proofs.CalmConduct.{four}

-- all pass
all_pass : (us : List ℕ) → filter (λ u. true) us ≡ us
all_pass [] = refl
all_pass (u ∷ us) = ap (λ vs. u ∷ vs) (all_pass us)

module _ (c : Calm) where
  -- each unit of a configuration runs each task, and no word is held
  pub executors_run : HasExecutors (mission_of c)
  executors_run = record {
    three = λ us w config low kept. omega (arith, config.enough, ap length (all_pass us));
    none = λ us w u config low held. absurd (let z : ⊥ = cc in z);
  }

  pub four_are_config : IsConfigOf (mission_of c) four_units
  four_are_config = record {
    enough = omega arith;
    ascending = ((omega arith, (omega arith, (omega arith, tt))), ((omega arith, (omega arith, tt)), ((omega arith, tt), (tt, tt))));
    inside = λ u h. h;
  }

  -- the four units have numbers below each number from 4 on
  pub four_are_below : (n : ℕ) → 4 ≤ n → (u : ℕ) → has four_units u ≡ true → u < n
  four_are_below n long u hu = four (λ u. u < n) (omega arith) (omega arith) (omega arith) (omega arith) u hu

  -- who works after the frame doesn't turn
  stays_whole : (u f : ℕ) → not (nat_lt 0 f && c.turns u) ≡ true → turned_by (if c.turns u then Some 1 else None) f ≡ false
  stays_whole u zero works = elim (cases_Bool (c.turns u)) [ inl t ↦ rw t refl | inr t ↦ rw t refl ]
  stays_whole u (suc f) works = elim (cases_Bool (c.turns u)) [
    | inl t ↦ absurd (let w = rw (lt-ltb 0 (suc f) (omega arith), t) at works in cc)
    | inr t ↦ rw t refl
  ]

  worked : (u f later : ℕ) → f ≤ later → not (nat_lt 0 later && c.turns u) ≡ true → not (nat_lt 0 f && c.turns u) ≡ true
  worked u zero later le works = refl
  worked u (suc f) later le works = rw (lt-ltb 0 (suc f) (omega arith)) (rw (lt-ltb 0 later (omega arith)) at works)

  always : IsPlain c → (f : ℕ) → not (nat_lt 0 f && c.turns 0) ≡ true
  always plain f = rw (plain.steady, false_last (nat_lt 0 f)) refl

  -- a plain calm mission that fits can be flown
  pub flyable_by : IsPlain c → Fits (mission_of c) → IsFlyable (mission_of c)
  flyable_by plain fits = record {
    fits = fits;
    script = record { steady = (0, refl, always plain); for_good = worked; own_words = λ u f k q t. refl; whole = stays_whole };
    clocks = record {
      admitted = record { kept = omega (arith, ints); told = omega (arith, ints); long = omega (arith, ints) };
      together = λ u v hu hv. omega (arith, ints);
      drifts = λ u hu. (omega (arith, ints), omega (arith, ints));
      errors = λ u v hu hv. (omega (arith, ints), omega (arith, ints));
    };
  }

  -- the one frame of a calm mission has margin
  pub has_margin : HasMarginAt (mission_of c) (flight_of (mission_of c) (core_of c) (λ u f. account_of c)) 0
  has_margin g low =
      let z : 0 ≡ g = omega arith in
      let flight = flight_of (mission_of c) (core_of c) (λ u f. account_of c) in
      subst (λ g. HasMargin (λ u. (mission_of c).works u g) (config_at (mission_of c) flight g)) z (record { few = omega arith; enough = omega arith })

  -- each task runs when the sensors are agreed on, and is polled before reports are said
  pub record RunsInTime : Type 0 where
    pub late : (w : ℕ) → w < length c.tasks → 4 ≤ slice_index c.runs w
    pub early : (w : ℕ) → w < length c.tasks → slice_index c.runs w + 8 ≤ c.period

  -- a plain calm mission fits, where its slots are numbered, and its tasks run in time and read what they may
  pub fits_by : IsPlain c → IsNumbered (mission_of c) → RunsInTime → IsRead (mission_of c) → Fits (mission_of c)
  fits_by plain numbered times read = record {
    numbered = numbered;
    timed = record {
      run = λ us w config low. refl;
      apart = λ us k config slot said. (in_time k slot).0;
      within = λ us k config slot. (in_time k slot).1;
      relayed = λ us x config low. omega arith;
      agreed = λ us x w config x_low low kept. times.late w low;
      caught = λ us k config slot t. caught k slot t;
      reported = λ us s config hs. omega arith;
    };
    read = read;
    counted = record {
      units = four_are_below 8 (omega arith);
      task = λ w low. low;
      tasks = omega arith;
      words = omega arith;
      few_words = plain.tasks;
      sensors = plain.sensors;
      period = plain.long;
      short = plain.short;
      frames = omega arith;
      starts = plain.starts;
    };
    executors = executors_run;
    config = four_are_config;
    clocks = record {
      starts = λ u hu. (omega (arith, ints), omega (arith, ints));
      limit = omega (arith, ints);
      change = omega (arith, ints);
      drifts = λ u hu. (omega (arith, ints), omega (arith, ints));
    };
  }
    where
      in_time : (k : Slot) → is_slot (mission_of c) k ≡ true → (due_in c k + 2 ≤ heard_in c k) × (heard_in c k + 2 ≤ c.period)
      in_time k slot = subst (λ k. (due_in c k + 2 ≤ heard_in c k) × (heard_in c k + 2 ≤ c.period)) (numbered.back k slot) (plain.timed ((mission_of c).number k))

      caught : (k : Slot) → is_slot (mission_of c) k ≡ true → is_caught_in k ≡ true → heard_in c k ≤ due_in c Report
      caught Clock slot t = omega (arith, plain.long)
      caught (Sense x) slot t = absurd cc
      caught (RelaySense x) slot t = omega (arith, plain.long)
      caught (Out w) slot t = omega (arith, times.early w (ltb-true w (length c.tasks) slot))
      caught Report slot t = absurd cc
      caught (RelayReport s) slot t = absurd cc
