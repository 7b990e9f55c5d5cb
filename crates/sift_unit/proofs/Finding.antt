-- A board goes on within its slot to the next unit with which it has a call.
use Rattle.std.proofs.Common.{◌≡◌, ◌≢◌, ℕ, ◌+◌, ◌-◌, ◌<◌, ◌≤◌, Bool, true, false, ◌||◌, refl, sym, subst, arith, nat_lt, ltb-true, ltb-false, inl, inr}
use Rattle.std.proofs.lemmas.Bool.{cases_Bool}
use mathlib.Core.Logic.{dite}
use native.Mathlib.Decide.{ℕ_discrete}
use Rattle.sift_base.specs.Units.{unit_limit}
use Rattle.sift_mission.specs.Data.{FlownMission}
use Rattle.sift_mission.specs.Slots.{calls, IsFirstFrom}
use Rattle.sift_mission.specs.Fits.{Fits}
use Rattle.sift_unit.specs.Desk.{Desk, is_hearing, is_saying, is_call, moved}
use Rattle.sift_unit.specs.Going.{InRange}
use Rattle.sift_unit.specs.Passing.{Passes, Finds, left}
use Rattle.sift_unit.proofs.Acting.{small_of}
use Rattle.sift_unit.proofs.Hearing.{hearing_is, hearing_at}
use Rattle.sift_unit.proofs.Saying.{saying_is, saying_at}
use Rattle.sift_unit.proofs.Quiet.{hear_quiet, say_quiet, places_onward}

-- a test that can't pass fails
fails : (t : Bool) → (t ≡ true → ⊥) → t ≡ false
fails true never = absurd (never refl)
fails false never = refl

-- there is no call where there is neither a hearing nor a saying
no_call : (m : FlownMission) (b : Desk) → (is_hearing m b ≡ true → ⊥) → (is_saying m b ≡ true → ⊥) → is_call m b ≡ false
no_call m b h s = rw (fails (is_hearing m b) h, fails (is_saying m b) s) refl

-- of two tests the second passes
second_passes : (t : Bool) → (t || true) ≡ true
second_passes true = refl
second_passes false = refl

module _ (m : FlownMission) (fit : Fits m) (b : Desk) (r : InRange m b) where
  -- a board that stays where it is
  stays : Passes m b b
  stays = record { range = r; going = λ c g. g; unit = refl; frame = refl; subframe = refl }

  -- at the end of a part there is no unit
  pub none_at_end : b.slot ≡ m.slots → Finds m b false b
  none_at_end end = record {
    passes = stays;
    nearer = omega arith;
    call = no_call m b (λ e. let at = hearing_is m fit b e in let low = at.slot in omega arith) (λ e. let at = saying_is m fit b e in let low = at.slot in omega arith);
    whole = λ _. record { heard = λ _ low. absurd (omega arith); said = λ _ low. absurd (omega arith) };
  }

  -- where tasks are run there is none
  pub none_running : b.part ≡ 1 → Finds m b false b
  none_running runs = record {
    passes = stays;
    nearer = omega arith;
    call = no_call m b (λ e. let at = hearing_is m fit b e in let p = at.part in omega arith) (λ e. let at = saying_is m fit b e in let p = at.part in omega arith);
    whole = λ _. record { heard = λ p. absurd (omega arith); said = λ p. absurd (omega arith) };
  }

  -- of a slot that isn't heard now there is none
  pub none_heard_now : b.part ≡ 0 → b.subframe ≢ m.heard_in b.cfg (m.kind b.slot) → Finds m b false b
  none_heard_now first apart = record {
    passes = stays;
    nearer = omega arith;
    call = no_call m b (λ e. apart (hearing_is m fit b e).subframe) (λ e. let at = saying_is m fit b e in let p = at.part in omega arith);
    whole = λ _. record { heard = λ _ _ s. absurd (apart s); said = λ p. absurd (omega arith) };
  }

  -- nor of one that isn't said now
  pub none_said_now : b.part ≡ 2 → b.subframe ≢ m.due b.cfg (m.kind b.slot) → Finds m b false b
  none_said_now last apart = record {
    passes = stays;
    nearer = omega arith;
    call = no_call m b (λ e. let at = hearing_is m fit b e in let p = at.part in omega arith) (λ e. apart (saying_is m fit b e).subframe);
    whole = λ _. record { heard = λ p. absurd (omega arith); said = λ _ _ s. absurd (apart s) };
  }

  -- the board at another unit of its slot
  abbrev at : ℕ → Desk
  at to = moved b b.subframe b.part b.slot to b.places

  -- past units with none of which there is a call, if there are such
  past_quiet : (to : ℕ) → b.slot < m.slots → b.other ≤ to → to ≤ unit_limit →
      ((p : ℕ) → b.other ≤ p → p < to → is_call m (record b { other = p }) ≡ false) → Passes m b (at to) × (left (at to) ≤ left b)
  past_quiet to low up few quiet = dite (ℕ_discrete to b.other)
      (λ e. subst (λ o. Passes m b (at o) × (left (at o) ≤ left b)) (sym e) (stays, omega arith))
      (λ e. let on = places_onward m fit (to - (b.other + 1)) b r to (omega arith) few low quiet in let less = on.less in (on.passes, omega arith))

  -- to the first unit from which the slot is heard
  pub caller_found : b.part ≡ 0 → b.slot < m.slots → b.subframe ≡ m.heard_in b.cfg (m.kind b.slot) → (to : ℕ) →
      IsFirstFrom (λ p. calls m b.cfg (m.kind b.slot) p b.unit) b.other to → Finds m b (nat_lt to 8) (at to)
  caller_found first low now to is =
      let within = is.within in
      let moves = past_quiet to low is.after is.within (λ p from below. hear_quiet m b p first (is.passed p from below)) in
      record {
        passes = moves.0;
        nearer = moves.1;
        call = elim (cases_Bool (nat_lt to 8)) [
          | inl t ↦ rw (t, hearing_at m fit (at to) first low now (is.here (ltb-true to 8 t))) refl
          | inr f ↦ rw f (hear_quiet m b to first (fails (calls m b.cfg (m.kind b.slot) to b.unit)
              (λ e. let low = (small_of m b.cfg (m.kind b.slot) to b.unit fit r.config e).from in omega (arith, ltb-false to 8 f))))
        ];
        whole = λ f. record { heard = λ _ _ _. omega (arith, ltb-false to 8 f); said = λ p. absurd (omega arith) };
      }

  -- to the first unit to which the slot is said
  pub called_found : b.part ≡ 2 → b.slot < m.slots → b.subframe ≡ m.due b.cfg (m.kind b.slot) → (to : ℕ) →
      IsFirstFrom (calls m b.cfg (m.kind b.slot) b.unit) b.other to → Finds m b (nat_lt to 8) (at to)
  called_found last low now to is =
      let within = is.within in
      let moves = past_quiet to low is.after is.within (λ p from below. say_quiet m b p last (is.passed p from below)) in
      record {
        passes = moves.0;
        nearer = moves.1;
        call = elim (cases_Bool (nat_lt to 8)) [
          | inl t ↦ rw t (says (saying_at m fit (at to) last low now (is.here (ltb-true to 8 t))))
          | inr f ↦ rw f (say_quiet m b to last (fails (calls m b.cfg (m.kind b.slot) b.unit to)
              (λ e. let low = (small_of m b.cfg (m.kind b.slot) b.unit to fit r.config e).to in omega (arith, ltb-false to 8 f))))
        ];
        whole = λ f. record { heard = λ p. absurd (omega arith); said = λ _ _ _. omega (arith, ltb-false to 8 f) };
      }
    where
      says : is_saying m (at to) ≡ true → is_call m (at to) ≡ true
      says e = rw e (second_passes (is_hearing m (at to)))
