-- From a lawful core and what its boards kept to the hearing equations, frame by frame.
use Rattle.std.proofs.Common.{◌≡◌, ◌≢◌, ◌⊎◌, inl, inr, ⊎_elim, ℕ, ◌+◌, ◌<◌, ◌≤◌, List, true, false, Option, Some, None, sym, refl, ap, ◌∙◌, arith}
use Rattle.std.proofs.lemmas.Bool.{cases_Bool, cases_lt}
use Rattle.std.proofs.lemmas.Bool.Decides.{eqb_tells}
use Rattle.std.proofs.lemmas.Option.{none-some}
use Rattle.sift_base.specs.Units.{has}
use Rattle.sift_base.specs.declared.slots.Slot.{Slot}
use Rattle.sift_buffer.specs.Ranges.{Ranges}
use Rattle.sift_buffer.specs.Conduct.{Saying, saying, hearing}
use Rattle.sift_buffer.specs.Core.{Core}
use Rattle.sift_buffer.specs.Lawful.{IsFromSayings, IsFromStrays, nothing, said, strayed}
use Rattle.sift_mission.specs.Data.{FlownMission, IsConfigOf}
use Rattle.sift_mission.specs.Slots.{is_slot, calls, stamp_of, heard_at, has_turned}
use Rattle.sift_mission.specs.Fits.{Fits}
use Rattle.sift_mission.specs.laws.Silent.{speaks}
use Rattle.sift_mission.specs.laws.Calls.{call_of}
use Rattle.sift_mission.specs.laws.Frames.{frame_low}
use Rattle.sift_conduct.specs.Conduct.{Account}
use Rattle.sift_conduct.specs.Frames.{Flies}
use Rattle.sift_conduct.specs.Acts.{ActsAre, BoardKeeps, word_in_saying, word_in_hearing}
use Rattle.sift_flight.specs.Flight.{IsOfStray, absent, stray}
use Rattle.sift_flight.specs.Landing.{HaveLanded, UnitsHearByTheEquations}
use Rattle.sift_flight.proofs.FrameActs.{same_frame, never_reached, heard_is, heard_none, left_above, hushed}

module _ (m : FlownMission) (r : Ranges) (c : Core) (accounts : ℕ → ℕ → Account) (n f : ℕ) (fits : Fits m) (landed : HaveLanded m r c accounts n) (low : f < n)
    (q : ℕ) (k : Slot) (p : ℕ) (flies : Flies m q f) where
  abbrev word : Option ℕ
  word = word_in_hearing ((c.of q).heard f (m.number k) p)

  abbrev mine : List ℕ
  mine = (accounts q f).cfg

  abbrev theirs : List ℕ
  theirs = (accounts p f).cfg

  abbrev stamp : ℕ
  stamp = stamp_of m mine f k

  abbrev at : ℕ
  at = heard_at m mine f k

  -- what q has kept
  own_acts : ActsAre m (c.of q) mine q f
  own_acts = (landed.boards q flies.unit).acts f low flies

  silent : is_slot m k ≡ true → calls m mine k p q ≡ false → word ≡ None
  silent slot e = heard_none _ (own_acts.heard k p slot ∙ rw e refl)

  module _ (called : calls m mine k p q ≡ true) where
    slot : is_slot m k ≡ true
    slot = (call_of m mine k p q called).slot

    config : IsConfigOf m mine
    config = (landed.boards q flies.unit).config f low flies

    unit : has m.units p ≡ true
    unit = config.inside p (call_of m mine k p q called).from

    kept : BoardKeeps m p (c.of p) (accounts p) n
    kept = landed.boards p unit

    heard_act : (c.of q).heard f (m.number k) p ≡ Some (hearing stamp at word)
    heard_act = heard_is _ stamp at (own_acts.heard k p slot ∙ rw called refl)

    below : m.number k < r.slots
    below = omega (arith, fits.numbered.low k slot, landed.places.slots)

    -- p says with this stamp in this frame alone
    here : (g : ℕ) (w : Option ℕ) → (c.of p).said g (m.number k) q ≡ Some (saying stamp w) → (g ≡ f) × ((c.of p).said f (m.number k) q ≡ Some (saying stamp w))
    here g w e =
        let a = kept.stamps g k q stamp w slot e in
        let t = fits.timed.apart mine k config slot (speaks m mine k p q fits.executors config called) in let t' = fits.timed.within mine k config slot in
        let same = same_frame m.period g f stamp a.0 a.1 (omega arith) (omega arith) in
        (same, sym (ap (λ (z : ℕ). (c.of p).said z (m.number k) q) same) ∙ e)

    -- what q heard was heard before p left, or after
    from_sayings : at < (c.of p).left → IsFromSayings (c.of p) q (m.number k) stamp at word
    from_sayings before = landed.heard.sayings q p f (m.number k) stamp at word
        (landed.places.units q flies.unit) (landed.places.units p unit) (call_of m mine k p q called).other below heard_act before

    from_strays : (c.of p).left ≤ at → IsFromStrays (c.of p) q (m.number k) stamp word
    from_strays after = landed.heard.strays q p f (m.number k) stamp at word
        (landed.places.units q flies.unit) (landed.places.units p unit) (call_of m mine k p q called).other below heard_act after

    -- where p has turned
    module _ (gone : has_turned m p f ≡ true) where
      no_word : (g : ℕ) → (c.of p).said g (m.number k) q ≡ Some (saying stamp word) → ⊥
      no_word g e = none-some (saying stamp word) (sym (hushed m (m.storm p) (c.of p) f k q slot kept.turns gone) ∙ (here g word e).1)

      of_stray : IsOfStray (c.of p).strays q (m.number k) stamp word
      of_stray = ⊎_elim
          (λ before. ⊎_elim (λ n. absent n) (λ s. absurd (no_word s.0 s.1)) (from_sayings before).source)
          (λ after. go (from_strays after)) (cases_lt at (c.of p).left)
        where
          go : IsFromStrays (c.of p) q (m.number k) stamp word → IsOfStray (c.of p).strays q (m.number k) stamp word
          go (nothing n) = absent n
          go (said g e) = absurd (no_word g e)
          go (strayed x among is) = stray x among is

    -- where it has not
    module _ (there : has_turned m p f ≡ false) where
      acts : ActsAre m (c.of p) theirs p f
      acts = kept.acts f low (record { unit = unit; whole = there })

      before : at < (c.of p).left
      before =
          let t = fits.timed.within mine k config slot in
          left_above m (m.storm p) (c.of p) f at kept.turns there (omega arith)
          (never_reached m.frames m.period f (omega (arith, landed.within)) fits.counted.short fits.counted.frames)

      -- in this frame p says the slot with its own stamp
      own : (w : Option ℕ) (s : ℕ) → (c.of p).said f (m.number k) q ≡ Some (saying s w) → s ≡ stamp_of m theirs f k
      own w s e = acts.said k q s w slot e

      -- a word heard is one said in this frame, with the stamp of both
      heard_here : (word ≡ None) ⊎ (((c.of p).said f (m.number k) q ≡ Some (saying stamp word)) × (m.due theirs k ≡ m.due mine k))
      heard_here = ⊎_elim (λ n. inl n) (λ s. let e = here s.0 word s.1 in let o = own word stamp e.1 in inr (e.1, omega arith)) (from_sayings before).source

      apart : m.due theirs k ≢ m.due mine k → word ≡ None
      apart differ = ⊎_elim (λ n. n) (λ t. absurd (differ t.1)) heard_here

      -- no later stamp reaches the cell before it is heard
      between : m.due theirs k ≡ m.due mine k → (g s : ℕ) (w : Option ℕ) → (c.of p).said g (m.number k) q ≡ Some (saying s w) → (s ≤ stamp) ⊎ (at + 2 < s)
      between due g s w e =
          let a = kept.stamps g k q s w slot e in
          let t = fits.timed.within mine k config slot in
          ⊎_elim (λ (z : g < f). inl (let up = frame_low m.period g f z in omega arith)) (λ (z : f ≤ g).
          ⊎_elim (λ (y : f < g). inr (let up = frame_low m.period f g y in omega arith)) (λ (y : g ≤ f).
          inl (let same : g ≡ f = omega arith in let o = own w s (sym (ap (λ (x : ℕ). (c.of p).said x (m.number k) q) same) ∙ e) in omega arith)) (cases_lt f g)) (cases_lt g f)

      as_said : m.due theirs k ≡ m.due mine k → word ≡ word_in_saying ((c.of p).said f (m.number k) q)
      as_said due = go ((c.of p).said f (m.number k) q) refl
        where
          go : (x : Option Saying) → (c.of p).said f (m.number k) q ≡ x → word ≡ word_in_saying x
          go None e = ⊎_elim (λ (n : word ≡ None). n) (λ z. absurd (none-some (saying stamp word) (sym e ∙ z.0))) heard_here
          go (Some x) e =
              let o = own x.word x.stamp e in
              let o' : x.stamp ≡ stamp = omega arith in
              (from_sayings before).same f x.word (e ∙ ap (λ (z : ℕ). Some (saying z x.word)) o') (between due)

-- both cases together
pub units_hear_by_the_equations : UnitsHearByTheEquations
units_hear_by_the_equations m r c accounts n f fits landed low q k p flies = record {
  heard = λ t there. elim (eqb_tells (m.due (accounts p f).cfg k) (m.due (accounts q f).cfg k)) [
    | inl due ↦ rw (there_is t, due.0) (as_said m r c accounts n f fits landed low q k p flies t there due.1)
    | inr due ↦ rw (there_is t, due.0) (apart m r c accounts n f fits landed low q k p flies t there due.1)
  ];
  strayed = λ t gone. rw (there_is t) (of_stray m r c accounts n f fits landed low q k p flies t gone);
  silent = λ e. elim (cases_Bool (is_slot m k)) [ inl t ↦ rw t (silent m r c accounts n f fits landed low q k p flies t e) | inr t ↦ rw t refl ];
}
  where
    there_is : calls m (accounts q f).cfg k p q ≡ true → is_slot m k ≡ true
    there_is t = (call_of m (accounts q f).cfg k p q t).slot
