-- From what holds of a board to what it guarantees.
use Rattle.std.proofs.Common.{◌≡◌, ◌⊎◌, inl, inr, ℕ, ◌<◌, ◌≤◌, ◌&&◌, Bool, true, false, Option, Some, None, refl, sym, ap, ◌∙◌, subst, arith, option_map}
use Rattle.std.specs.Prelude.{if◌then◌else◌}
use Rattle.std.proofs.lemmas.Bool.{cases_Bool, cases_lt, both_ways}
use Rattle.std.proofs.lemmas.Option.{same_Some}
use Rattle.sift_base.specs.declared.slots.Slot.{Slot}
use Rattle.sift_buffer.specs.Conduct.{Saying, Hearing, saying}
use Rattle.sift_buffer.specs.Conduct.{Conduct as Acts}
use Rattle.sift_mission.specs.Data.{FlownMission}
use Rattle.sift_mission.specs.Slots.{is_slot, calls, stamp_of, heard_at}
use Rattle.sift_mission.specs.Fits.{Fits}
use Rattle.sift_mission.specs.laws.Silent.{speaks}
use Rattle.sift_mission.specs.laws.Calls.{call_of}
use Rattle.sift_conduct.specs.Frames.{UnitFlight, FrameConduct, Flies}
use Rattle.sift_conduct.specs.Conduct.{Account, Places}
use Rattle.sift_conduct.specs.Acts.{word_in_saying, word_in_hearing, said_places, heard_places, unit_flight, StampsAreOfTheirFrames, Turns, stamp_and_moment, ActsAre, IsUnderway, BoardKeeps}
use Rattle.sift_mission.specs.Stops.{hear_spot, say_spot}
use Rattle.sift_unit.specs.Desk.{Desk, cursor, is_past, accounts_of}
use Rattle.sift_unit.specs.Going.{word_in_frame, Meets, Going}
use Rattle.sift_unit.proofs.Tests.{some_none, choice_past, choice_none}
use Rattle.sift_unit.proofs.Past.{past_before, not_past_after, not_past_yet}
use Rattle.sift_unit.proofs.Standing.{stands, config_at, at_frame, now_cfg}

-- a word that was said by two tests has the stamp of the choice, and both tests pass
pub record Chosen (t p : Bool) (s s' : ℕ) : Type 0 where
  pub called : t ≡ true
  pub past : p ≡ true
  pub stamp : s' ≡ s

stamp_by : (t p : Bool) (s s' : ℕ) (w w' : Option ℕ) → (if t && p then Some (saying s w) else None) ≡ Some (saying s' w') → Chosen t p s s'
stamp_by true true s s' w w' e =
    record { called = refl; past = refl; stamp = (let z : saying s w ≡ saying s' w' = cc in ap (λ (x : Saying). x.stamp) (sym z)) }
stamp_by true false s s' w w' e = absurd (some_none (sym e))
stamp_by false p s s' w w' e = absurd (some_none (sym e))

-- the word of a choice
word_by : (t : Bool) (s : ℕ) (w : Option ℕ) → word_in_saying (if t then Some (saying s w) else None) ≡ (if t then w else None)
word_by true s w = refl
word_by false s w = refl

-- the word said in a slot that is there, or that nobody says
said_flat : (s : Bool) (x : Option Saying) (t : Bool) (st : ℕ) (w : Option ℕ) → (s ≡ false → t ≡ false) →
    (s ≡ true → x ≡ (if t then Some (saying st w) else None)) → (if s then word_in_saying x else None) ≡ (if t then w else None)
said_flat true x t st w out e = ap (λ (y : Option Saying). word_in_saying y) (e refl) ∙ word_by t st w
said_flat false x t st w out e = rw (out refl) refl

-- what has no stamp wasn't heard
no_stamp : (x : Option Hearing) → option_map stamp_and_moment x ≡ None → x ≡ None
no_stamp None e = refl
no_stamp (Some x) e = absurd (some_none e)

-- what was heard by two tests is what the choice says, and the first test passes
heard_by_both : (t p : Bool) (x y : ℕ × ℕ) → (if t && p then Some x else None) ≡ Some y → (t ≡ true) × (y ≡ x)
heard_by_both true true x y e = (refl, sym (same_Some _ _ e))
heard_by_both true false x y e = absurd (some_none (sym e))
heard_by_both false p x y e = absurd (some_none (sym e))

module _ (m : FlownMission) (fit : Fits m) (b : Desk) (c : Acts) (g : Going m b c) where
  -- the accounts and words as they stand meet the equations
  meets : Meets m b c (accounts_of m b) (heard_places m c)
  meets = g.meets (accounts_of m b) (heard_places m c) (stands m b c g.range)

  -- a word that was said, was said by the equations
  chosen : (f : ℕ) (k : Slot) (q s : ℕ) (w : Option ℕ) → is_slot m k ≡ true → c.said f (m.number k) q ≡ Some (saying s w) →
      Chosen (calls m (accounts_of m b f).cfg k b.unit q) (is_past b.frame (cursor b) f (say_spot m (accounts_of m b f).cfg k q)) (stamp_of m (accounts_of m b f).cfg f k) s
  chosen f k q s w slot e = stamp_by (calls m (accounts_of m b f).cfg k b.unit q) (is_past b.frame (cursor b) f (say_spot m (accounts_of m b f).cfg k q))
      (stamp_of m (accounts_of m b f).cfg f k) s (word_in_frame m b.unit (accounts_of m b) (heard_places m c) f k q) w (sym (meets.acts.said f k q slot) ∙ e)

  -- stamps are of their frames
  pub stamps : StampsAreOfTheirFrames m c
  stamps f k q s w slot e =
      let t = chosen f k q s w slot e in
      elim (cases_lt b.frame f) [
        | inl after ↦ absurd (both_ways _ (not_past_after b.frame (cursor b) f (say_spot m (accounts_of m b f).cfg k q) after) t.past)
        | inr low ↦
            let config = config_at m b g.range f low in
            let apart = fit.timed.apart (accounts_of m b f).cfg k config slot
            (speaks m (accounts_of m b f).cfg k b.unit q fit.executors config t.called) in
            let within = fit.timed.within (accounts_of m b f).cfg k config slot in
            let is = t.stamp in
            (omega arith, omega arith)
      ]

  -- the acts of a frame that has ended
  acts : (f : ℕ) → f < b.frame → ActsAre m c (accounts_of m b f).cfg b.unit f
  acts f low = record {
    said = λ k q s w slot e. (chosen f k q s w slot e).stamp;
    heard = λ k p slot. meets.acts.heard f k p slot
        ∙ choice_past {A = ℕ × ℕ} (calls m (accounts_of m b f).cfg k p b.unit) (is_past b.frame (cursor b) f (hear_spot m (accounts_of m b f).cfg k p))
        (Some (stamp_of m (accounts_of m b f).cfg f k, heard_at m (accounts_of m b f).cfg f k))
        (past_before b.frame (cursor b) f (hear_spot m (accounts_of m b f).cfg k p) low);
  }

  -- the words that were said in it
  said : (f : ℕ) → f < b.frame → (k : Slot) (q : ℕ) → said_places m c f k q ≡
      (if calls m (accounts_of m b f).cfg k b.unit q then word_in_frame m b.unit (accounts_of m b) (heard_places m c) f k q else None)
  said f low k q =
      let us = (accounts_of m b f).cfg in
      let st = stamp_of m (accounts_of m b f).cfg f k in
      let w = word_in_frame m b.unit (accounts_of m b) (heard_places m c) f k q in
      said_flat (is_slot m k) (c.said f (m.number k) q) (calls m (accounts_of m b f).cfg k b.unit q) st w
      (λ out. elim (cases_Bool (calls m (accounts_of m b f).cfg k b.unit q)) [
        | inl t ↦ absurd (both_ways _ out (call_of m us k b.unit q t).slot)
        | inr t ↦ t
      ])
      (λ t. meets.acts.said f k q t
      ∙ choice_past {A = Saying} (calls m (accounts_of m b f).cfg k b.unit q) (is_past b.frame (cursor b) f (say_spot m (accounts_of m b f).cfg k q))
      (Some (saying st w)) (past_before b.frame (cursor b) f (say_spot m (accounts_of m b f).cfg k q) low))

  -- a frame to which it has not come
  abbrev pub IsToCome : ℕ → Type 0
  IsToCome f = (b.frame < f) ⊎ ((b.frame ≤ f) × (cursor b ≡ 0))

  -- no place of it is past
  not_past : (f s : ℕ) → IsToCome f → is_past b.frame (cursor b) f s ≡ false
  not_past f s (inl after) = not_past_after b.frame (cursor b) f s after
  not_past f s (inr z) = not_past_yet b.frame (cursor b) f s z.0 z.1

  -- nothing is said in it
  pub unsaid : (f : ℕ) (k : Slot) (q : ℕ) → is_slot m k ≡ true → IsToCome f → c.said f (m.number k) q ≡ None
  unsaid f k q slot late = meets.acts.said f k q slot
      ∙ choice_none {A = Saying} (calls m (accounts_of m b f).cfg k b.unit q) _ _ (not_past f (say_spot m (accounts_of m b f).cfg k q) late)

  -- nor heard
  pub unheard : (f : ℕ) (k : Slot) (p : ℕ) → is_slot m k ≡ true → IsToCome f → c.heard f (m.number k) p ≡ None
  unheard f k p slot late = no_stamp _ (meets.acts.heard f k p slot
      ∙ choice_none {A = ℕ × ℕ} (calls m (accounts_of m b f).cfg k p b.unit) _ _ (not_past f (hear_spot m (accounts_of m b f).cfg k p) late))

  -- the acts of the frame that is underway
  pub underway : IsUnderway m c b.cfg b.unit b.frame
  underway =
      let us = (accounts_of m b b.frame).cfg in
      let mine : us ≡ b.cfg = ap (λ (z : Account). z.cfg) (at_frame m b) ∙ now_cfg m b in
      record {
        said = λ k q s w slot e. let t = chosen b.frame k q s w slot e in (
          subst (λ z. calls m z k b.unit q ≡ true) mine t.called,
          subst (λ z. s ≡ stamp_of m z b.frame k) mine t.stamp,
        );
        heard = λ k p act slot e.
            let t = heard_by_both (calls m us k p b.unit) (is_past b.frame (cursor b) b.frame (hear_spot m us k p))
            (stamp_of m us b.frame k, heard_at m us b.frame k) (stamp_and_moment act)
            (sym (meets.acts.heard b.frame k p slot) ∙ ap (λ x. option_map stamp_and_moment x) e) in (
              subst (λ z. calls m z k p b.unit ≡ true) mine t.0,
              subst (λ z. stamp_and_moment act ≡ (stamp_of m z b.frame k, heard_at m z b.frame k)) mine t.1,
            );
        says_nothing = λ later k q slot low. unsaid later k q slot (inl low);
        hears_nothing = λ later k p slot low. unheard later k p slot (inl low);
      }

  -- the conduct of a frame that has ended
  conduct : (f : ℕ) → f < b.frame → FrameConduct m b.unit (unit_flight m c (accounts_of m b)) f
  conduct f low = let en = meets.ended f low in record { begins = en.begins; said = λ k q. said f low k q; busy = en.busy; idle = en.idle }

  -- what the unit does with these words said and heard
  abbrev does : (ℕ → Places) → (ℕ → Places) → UnitFlight
  does said heard = record { said = said; heard = heard; account = accounts_of m b }

  -- all of it, also where the unit's progress is another, for each number of frames up to those that it has ended
  pub kept : (d : Acts) (n : ℕ) → d.said ≡ c.said → d.heard ≡ c.heard → Turns m (m.storm b.unit) d → ((f : ℕ) → f < n → Flies m b.unit f → f < b.frame) →
      BoardKeeps m b.unit d (accounts_of m b) n
  kept d n es eh turns far = record {
    stamps = λ f k q s w slot e. stamps f k q s w slot ((λ i. sym es i f (m.number k) q) ∙ e);
    turns = turns;
    config = λ f low fly. let past = far f low fly in config_at m b g.range f (omega arith);
    acts = λ f low fly. let is = acts f (far f low fly) in record {
      said = λ k q s w slot e. is.said k q s w slot ((λ i. sym es i f (m.number k) q) ∙ e);
      heard = λ k p slot. (λ i. option_map stamp_and_moment (eh i f (m.number k) p)) ∙ is.heard k p slot;
    };
    conduct = λ f low fly.
        subst (λ z. FrameConduct m b.unit (does (said_places m d) (λ g k p. if is_slot m k then word_in_hearing (z g (m.number k) p) else None)) f)
        (sym eh)
        (subst (λ z. FrameConduct m b.unit (does (λ g k q. if is_slot m k then word_in_saying (z g (m.number k) q) else None) (heard_places m c)) f)
        (sym es)
        (conduct f (far f low fly)));
  }
