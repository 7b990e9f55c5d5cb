-- How a board starts, and how it turns.
use Rattle.std.proofs.Common.{◌≡◌, inl, inr, ℕ, ◌+◌, ◌*◌, ◌-◌, List, length, true, Option, Some, option_map, refl, sym, ap, ◌∙◌, subst, arith, eqb-true}
use Rattle.std.proofs.lemmas.Bool.{and_parts, cases_lt}
use Rattle.sift_base.specs.Units.{has, unit_limit}
use Rattle.sift_buffer.specs.Conduct.{Saying, never, with_entered, with_turned}
use Rattle.sift_buffer.specs.Conduct.{Conduct as Acts}
use Rattle.sift_mission.specs.Data.{FlownMission}
use Rattle.sift_mission.specs.Slots.{calls}
use Rattle.sift_conduct.specs.Acts.{stamp_and_moment}
use Rattle.sift_mission.specs.Fits.{Fits}
use Rattle.sift_unit_frame.specs.Memory.{Memory}
use Rattle.sift_unit_frame.specs.Conditions.{IsShaped}
use Rattle.sift_mission.specs.Stops.{say_spot, hear_spot}
use Rattle.sift_unit.specs.Desk.{Desk, cursor, is_end, first_desk, ended_desk}
use Rattle.sift_unit.specs.Going.{Going}
use Rattle.sift_unit.specs.Keeping.{Flying, Turned, IsFresh, as_flying}
use Rattle.sift_unit.specs.BoardLaws.{StartLaw, TurnLaw, TurnFirstLaw}
use Rattle.sift_skew.specs.Leading.{OffsetsChangeLittle}
use Rattle.sift_unit.proofs.Tests.{choice_none}
use Rattle.sift_unit.proofs.Nearness.{near_start}
use Rattle.sift_unit.proofs.Past.{not_past_yet}
use Rattle.sift_unit.proofs.Ending.{frame_going}

-- what holds of a new board
start_going : (m : FlownMission) (u : ℕ) (places : List (Option ℕ)) (memory : Memory) (c : Acts) → Fits m → has m.units u ≡ true →
    length places ≡ unit_limit → IsShaped m m.units u memory → IsFresh c → Going m (first_desk m u places memory) c
start_going m u places memory c fit unit wide shape fresh = record {
  range = record {
    unit = unit;
    frame = omega arith;
    subframe = (let long = fit.counted.period in omega arith);
    part = omega arith;
    slot = omega arith;
    other = omega arith;
    count = refl;
    config = fit.config;
    configs = λ f d low. absurd (omega arith);
    clk = near_start (m.offset u) (fit.clocks.starts u unit);
    clocks = λ f d low. absurd (omega arith);
    last = λ member. fit.counted.starts;
    places = wide;
    shape = shape;
  };
  progress = fresh.progress ∙ (let z : 0 ≡ 0 * m.period + 0 = omega arith in z);
  left = fresh.left;
  meets = λ a h fate. record {
    acts = record {
      said = λ f k q slot. fresh.said f (m.number k) q
          ∙ sym (choice_none {A = Saying} (calls m (a f).cfg k u q) _ _ (not_past_yet 0 0 f (say_spot m (a f).cfg k q) (omega arith) refl));
      heard = λ f k p slot. ap (λ x. option_map stamp_and_moment x) (fresh.heard f (m.number k) p)
          ∙ sym (choice_none {A = ℕ × ℕ} (calls m (a f).cfg k p u) _ _ (not_past_yet 0 0 f (hear_spot m (a f).cfg k p) (omega arith) refl));
    };
    ended = λ f low. absurd (omega arith);
    begins = (fate.cfg, fate.clk);
    last = refl;
    places = λ zero few sub p below call. absurd (omega arith);
    remembers = λ member. record { heard = λ k slot past. absurd (omega arith); ran = λ k slot past. absurd (omega arith) };
  };
}

-- a new board flies, whatever its storm
pub start_flying : (m : FlownMission) (u : ℕ) (places : List (Option ℕ)) (memory : Memory) (c : Acts) → Fits m → has m.units u ≡ true →
    length places ≡ unit_limit → IsShaped m m.units u memory → IsFresh c → Flying m (first_desk m u places memory) c
start_flying m u places memory c fit unit wide shape fresh = record {
  before = λ from s. elim (cases_lt 0 from) [ inl low ↦ inl low | inr low ↦ inr (omega arith, refl, refl) ];
  going = start_going m u places memory c fit unit wide shape fresh;
}

-- and keeps to its conduct
pub start_law : StartLaw
start_law m u places memory c fit unit wide shape fresh = inl (start_flying m u places memory c fit unit wide shape fresh)

-- the end of a subframe is where its last slot was said
pub end_is : (m : FlownMission) (b : Desk) → is_end m b ≡ true → (b.part ≡ 2) × (b.slot ≡ m.slots)
end_is m b e = let t = and_parts _ _ e in (eqb-true b.part 2 t.0, eqb-true b.slot m.slots t.1)

-- a board has turned, where its unit would else have entered the first subframe of its storm
pub turned_on : (m : FlownMission) (b : Desk) (c : Acts) → c.left ≡ never → Going m b (with_entered c) → m.storm b.unit ≡ Some b.frame → cursor b ≡ 0 →
    Turned m b (with_turned c)
turned_on m b c flew next storm start =
    let p : c.progress + 1 ≡ b.frame * m.period + b.subframe = next.progress in
    record {
      storm = storm;
      at = start;
      left = (let z : c.progress ≡ b.frame * m.period - 1 = omega arith in z);
      progress = refl;
      going = subst (λ n. Going m b (as_flying c n)) p (subst (λ n. Going m b (record c { progress = c.progress + 1; left = n })) flew next);
    }

-- a board turns at a frame's end
pub turn_law : OffsetsChangeLittle → TurnLaw
turn_law little m b c memory accounts fit g storm end high room shape pushed =
    let t = end_is m b end in
    turned_on m (ended_desk m b memory accounts) c g.left
    (frame_going m fit b memory accounts shape pushed little c g (record { slot = t.1; part = t.0; subframe = high; frame = room })) storm refl

-- a board turns before anything else
pub turn_first_law : TurnFirstLaw
turn_first_law m b c g storm z1 z2 =
    let p = g.progress in
    let zm : b.frame * m.period ≡ 0 = rw z1 (omega arith) in
    record {
      storm = storm ∙ ap Some (sym z1);
      at = z2;
      left = p ∙ (let w : b.frame * m.period + b.subframe ≡ b.frame * m.period - 1 = omega arith in w);
      progress = refl;
      going = subst (λ n. Going m b (as_flying c n)) p (subst (λ n. Going m b (record c { left = n })) g.left g);
    }
