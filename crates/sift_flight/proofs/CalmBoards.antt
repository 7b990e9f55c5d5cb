-- The boards of a calm mission have kept what boards keep.
use Rattle.std.proofs.Common.{ne_eqb, ◌≡◌, inl, inr, ℕ, ◌*◌, ◌<◌, true, None, Some, if◌then◌else◌, option_map, refl, sym, ap, ◌∙◌, subst, arith}
use Rattle.std.proofs.lemmas.Bool.{cases_Bool}
use Rattle.sift_base.specs.Units.{has}
use Rattle.sift_base.specs.declared.slots.Slot.{Slot}
use Rattle.sift_buffer.specs.Conduct.{hearing}
use Rattle.sift_buffer.specs.Lawful.{Lawful}
use Rattle.sift_mission.specs.Slots.{is_slot, calls, stamp_of, heard_at}
use Rattle.sift_mission.specs.Fits.{Fits}
use Rattle.sift_mission.specs.laws.Calls.{call_of}
use Rattle.sift_conduct.specs.Conduct.{Places, UnitFrame, unit_frame, own_word, said_of, Conduct}
use Rattle.sift_conduct.specs.Frames.{FrameConduct}
use Rattle.sift_conduct.specs.Acts.{Turns, ActsAre, BoardKeeps, said_places, heard_places, unit_flight, stamp_and_moment}
use Rattle.sift_flight.specs.Landing.{HaveLanded}
use Rattle.sift_flight.specs.Calm.{Calm, four_units, mission_of}
use Rattle.sift_flight.specs.CalmFlight.{word_in, account_of, acts_of, ranges_of, core_of}
use Rattle.sift_flight.proofs.Landed.{lawful_cores_hear_lawfully}
use Rattle.sift_flight.proofs.CalmStages.{IsPlain}
use Rattle.sift_flight.proofs.CalmActs.{said_act, lawful}

-- the words that a unit hears in the one frame
abbrev pub heard_by : Calm → ℕ → Places
heard_by c u k p = if calls (mission_of c) four_units k p u then Some (word_in c k) else None

-- a unit in the one frame, which hears these words
abbrev pub frame_in : Calm → ℕ → Places → UnitFrame
frame_in c u h = unit_frame (mission_of c) four_units u 0 (account_of c) h c.starts

-- each unit does what it ought to on these words, and says the words of its slots
pub record IsCalm (c : Calm) : Type 0 where
  pub plain : IsPlain c
  pub fits : Fits (mission_of c)
  pub below : (u : ℕ) → has four_units u ≡ true → u < 4
  pub conduct : (u : ℕ) → has four_units u ≡ true → Conduct (frame_in c u (heard_by c u))
  pub own : (u : ℕ) (k : Slot) (q : ℕ) → calls (mission_of c) four_units k u q ≡ true → own_word (frame_in c u (heard_by c u)) k ≡ Some (word_in c k)

module _ (c : Calm) (calm : IsCalm c) where
  back : (k : Slot) → is_slot (mission_of c) k ≡ true → c.kind ((mission_of c).number k) ≡ k
  back k slot = calm.fits.numbered.back k slot

  heard_is : (u : ℕ) → heard_places (mission_of c) (acts_of c u) 0 ≡ heard_by c u
  heard_is u = λ i k p. at k p i
    where
      at : (k : Slot) (p : ℕ) → heard_places (mission_of c) (acts_of c u) 0 k p ≡ heard_by c u k p
      at k p = elim (cases_Bool (calls (mission_of c) four_units k p u)) [
        | inl t ↦ let slot = (call_of (mission_of c) four_units k p u t).slot in rw (back k slot, t, slot) refl
        | inr t ↦ elim (cases_Bool (is_slot (mission_of c) k)) [ inl slot ↦ rw (back k slot, t, slot) refl | inr n ↦ rw (t, n) refl ]
      ]

  said_is : (u : ℕ) (k : Slot) (q : ℕ) → said_places (mission_of c) (acts_of c u) 0 k q ≡ said_of (frame_in c u (heard_by c u)) k q
  said_is u k q = elim (cases_Bool (calls (mission_of c) four_units k u q)) [
    | inl t ↦ let slot = (call_of (mission_of c) four_units k u q t).slot in rw (back k slot, t, slot) (sym (calm.own u k q t))
    | inr t ↦ elim (cases_Bool (is_slot (mission_of c) k)) [ inl slot ↦ rw (back k slot, t, slot) refl | inr n ↦ rw (t, n) refl ]
  ]

  frame : (u : ℕ) → has four_units u ≡ true → FrameConduct (mission_of c) u (unit_flight (mission_of c) (acts_of c u) (λ f. account_of c)) 0
  frame u hu = record {
    begins = (refl, refl);
    said = λ k q. said_is u k q ∙ ap (λ (h : Places). said_of (frame_in c u h) k q) (sym (heard_is u));
    busy = λ t. subst (λ (h : Places). Conduct (frame_in c u h)) (sym (heard_is u)) (calm.conduct u hu);
    idle = λ e. absurd (let t = hu in cc);
  }

  acts : (u : ℕ) → ActsAre (mission_of c) (acts_of c u) four_units u 0
  acts u = record {
    said = λ k q s w slot e. let a = (said_act c calm.plain u 0 ((mission_of c).number k) q s w e).stamped in rw (back k slot) at (sym a);
    heard = λ k p slot. rw (back k slot) (by_calls k p);
  }
    where
      by_calls : (k : Slot) (p : ℕ)
          → option_map stamp_and_moment (if calls (mission_of c) four_units k p u
          then Some (hearing (stamp_of (mission_of c) four_units 0 k) (heard_at (mission_of c) four_units 0 k) (Some (word_in c k))) else None)
          ≡ (if calls (mission_of c) four_units k p u then Some (stamp_of (mission_of c) four_units 0 k, heard_at (mission_of c) four_units 0 k) else None)
      by_calls k p = elim (cases_Bool (calls (mission_of c) four_units k p u)) [ inl t ↦ rw t refl | inr t ↦ rw t refl ]

  -- a unit that turns does so after the frame, and has no acts from then on
  turns : (u : ℕ) → Turns (mission_of c) ((mission_of c).storm u) (acts_of c u)
  turns u = elim (cases_Bool (c.turns u)) [
    | inl t ↦ rw t (record {
      left = inr (omega arith);
      says_nothing = λ f k q slot later. rw (ne_eqb f 0 (λ z. omega arith)) refl;
      hears_nothing = λ f k p slot later. rw (ne_eqb f 0 (λ z. omega arith)) refl;
    })
    | inr t ↦ rw t refl
  ]

  board : (u : ℕ) → has four_units u ≡ true → BoardKeeps (mission_of c) u (acts_of c u) (λ f. account_of c) 1
  board u hu = record {
    stamps = λ f k q s w slot e.
        let a = said_act c calm.plain u f ((mission_of c).number k) q s w e in
        let z = a.frame in
        let y = a.stamped in
        let t = calm.plain.timed ((mission_of c).number k) in
        (omega (arith, ap {B = ℕ} (λ x. x * c.period) z), omega (arith, ap {B = ℕ} (λ x. x * c.period) z));
    turns = turns u;
    config = λ f low flies. calm.fits.config;
    acts = λ f low flies. let z : 0 ≡ f = omega arith in subst (ActsAre (mission_of c) (acts_of c u) four_units u) z (acts u);
    conduct = λ f low flies. let z : 0 ≡ f = omega arith in
        subst (FrameConduct (mission_of c) u (unit_flight (mission_of c) (acts_of c u) (λ f. account_of c))) z (frame u hu);
  }

  -- the units have landed: they have heard lawfully, and each board has kept its conduct in the one frame
  pub calm_landed : HaveLanded (mission_of c) (ranges_of c) (core_of c) (λ u f. account_of c) 1
  calm_landed = record {
    places = record { units = calm.below; slots = omega arith };
    heard = lawful_cores_hear_lawfully (ranges_of c) (core_of c) (lawful c calm.plain);
    boards = board;
    within = omega arith;
  }

  -- the core of a calm mission, in which each unit does what it ought to, is lawful
  pub calm_lawful : Lawful (ranges_of c) (core_of c)
  calm_lawful = lawful c calm.plain
