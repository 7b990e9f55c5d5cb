-- A board hears a word.
use Rattle.std.proofs.Common.{◌≡◌, ℕ, ◌+◌, ◌<◌, length, true, Option, Some, None, refl, sym}
use Rattle.std.proofs.Common.{◌∙◌, subst, arith, eqb-true, ltb-true, lt-ltb, eq-eqb, option_map, length-set, get_or-set_same, get_or-set_other}
use Rattle.std.specs.Prelude.{slice_set}
use Rattle.std.proofs.lemmas.Bool.{and_parts, and_from}
use mathlib.Core.Logic.{dite}
use native.Mathlib.Decide.{ℕ_discrete}
use Rattle.sift_buffer.specs.Conduct.{Hearing, hearing, with_heard}
use Rattle.sift_buffer.specs.Conduct.{Conduct as Acts}
use Rattle.sift_mission.specs.Data.{FlownMission}
use Rattle.sift_mission.specs.Slots.{calls, stamp_of}
use Rattle.sift_mission.specs.Fits.{Fits}
use Rattle.sift_conduct.specs.Acts.{stamp_and_moment, heard_places}
use Rattle.sift_mission.specs.Stops.{spot, hear_spot}
use Rattle.sift_unit.specs.Desk.{Desk, cursor, is_hearing, accounts_of, moved}
use Rattle.sift_unit.specs.Going.{Accounts, Words, ActsTo, Going}
use Rattle.sift_unit.proofs.Tests.{some_none}
use Rattle.sift_unit.proofs.Past.{put_here, put_cases}
use Rattle.sift_unit.proofs.Acting.{small_of, acts_heard, heard_none}
use Rattle.sift_unit.proofs.Standing.{stands}
use Rattle.sift_unit.proofs.Moving.{Grows, fate_back, meets_on, free_place, range_place}

-- nothing was heard where nothing has a stamp
no_stamp : (x : Option Hearing) → option_map stamp_and_moment x ≡ None → x ≡ None
no_stamp None e = refl
no_stamp (Some x) e = absurd (some_none e)

module _ (m : FlownMission) (fit : Fits m) where
  -- where a board stands that hears
  pub record AtHearing (b : Desk) : Type 0 where
    pub part : b.part ≡ 0
    pub slot : b.slot < m.slots
    pub subframe : b.subframe ≡ m.heard_in b.cfg (m.kind b.slot)
    pub call : calls m b.cfg (m.kind b.slot) b.other b.unit ≡ true

  -- the test of it tells
  pub hearing_is : (b : Desk) → is_hearing m b ≡ true → AtHearing b
  hearing_is b e = let t = and_parts _ _ e in let t' = and_parts _ _ t.1 in let t'' = and_parts _ _ t'.1 in
      record { part = eqb-true b.part 0 t.0; slot = ltb-true b.slot m.slots t'.0; subframe = eqb-true b.subframe _ t''.0; call = t''.1 }

  -- and the other way round
  pub hearing_at : (b : Desk) → b.part ≡ 0 → b.slot < m.slots → b.subframe ≡ m.heard_in b.cfg (m.kind b.slot) →
      calls m b.cfg (m.kind b.slot) b.other b.unit ≡ true → is_hearing m b ≡ true
  hearing_at b e low sub call = and_from _ _ (eq-eqb b.part 0 e) (and_from _ _ (lt-ltb b.slot m.slots low) (and_from _ _ (eq-eqb b.subframe _ sub) call))

  -- the place at which it stands
  here : (b : Desk) → AtHearing b → cursor b ≡ hear_spot m b.cfg (m.kind b.slot) b.other
  here b at = let s = at.subframe in let p = at.part in let n = fit.numbered.there b.slot at.slot in omega arith

  -- and the next
  next : (b : Desk) → AtHearing b → spot b.subframe b.part b.slot (b.other + 1) ≡ hear_spot m b.cfg (m.kind b.slot) (b.other + 1)
  next b at = let s = at.subframe in let p = at.part in let n = fit.numbered.there b.slot at.slot in omega arith

  -- nothing was heard yet where it hears
  pub hear_none : (b : Desk) (c : Acts) → Going m b c → AtHearing b → c.heard b.frame b.slot b.other ≡ None
  hear_none b c g at =
      let st = stands m b c g.range in
      let a = accounts_of m b in
      let k = m.kind b.slot in
      let mt = g.meets (accounts_of m b) (heard_places m c) st in
      let none = heard_none m fit b.unit a (heard_places m c) b.frame b.cfg g.range.config st.cfg (cursor b) k b.other (let e = here b at in omega arith) in
      no_stamp _ (subst (λ z. option_map stamp_and_moment (c.heard b.frame z b.other) ≡ None) (fit.numbered.there b.slot at.slot)
      (mt.acts.heard b.frame k b.other (fit.numbered.slot b.slot at.slot) ∙ none))

  -- the board that has heard a word
  abbrev pub heard_on : Desk → Option ℕ → Desk
  heard_on b w = moved b b.subframe b.part b.slot (b.other + 1) (slice_set b.places b.other w)

  -- what was heard before is still known
  grows : (b : Desk) (c : Acts) (s : ℕ) (w : Option ℕ) → Going m b c → AtHearing b → Grows m c (with_heard c b.frame b.slot b.other s w)
  grows b c s w g at = λ f k' p x slot e.
      put_cases (λ (y : Option Hearing). y ≡ Some x) c.heard b.frame b.slot b.other (hearing s c.progress w) f (m.number k') p
      (λ t. absurd (
      let none = hear_none b c g at in
      let had : c.heard b.frame b.slot b.other ≡ Some x = rw (← t.0, ← t.1, ← t.2) e in
      some_none (sym had ∙ none)))
      (λ away. e)

  -- the acts with the word heard
  acts_here : (b : Desk) (c : Acts) (s : ℕ) (w : Option ℕ) (a : Accounts) (h : Words) → Going m b c → AtHearing b → s ≡ stamp_of m b.cfg b.frame (m.kind b.slot) →
      (a b.frame).cfg ≡ b.cfg → ActsTo m b.unit c a h b.frame (cursor b) →
      ActsTo m b.unit (with_heard c b.frame b.slot b.other s w) a h b.frame (spot b.subframe b.part b.slot (b.other + 1))
  acts_here b c s w a h g at es mine acts =
      let k = m.kind b.slot in
      let past = acts_heard m fit b.unit a h b.frame b.cfg g.range.config mine c k b.other s w at.call es
      (let p = g.progress in let e = at.subframe in omega arith) (subst (λ z. ActsTo m b.unit c a h b.frame z) (here b at) acts) in
      subst (λ z. ActsTo m b.unit (with_heard c b.frame b.slot b.other s w) a h b.frame z) (sym (next b at))
      (subst (λ z. ActsTo m b.unit (with_heard c b.frame z b.other s w) a h b.frame (hear_spot m b.cfg (m.kind b.slot) (b.other + 1)))
      (fit.numbered.there b.slot at.slot) past)

  -- a board that hears a word keeps what holds of it
  pub hear_going : (b : Desk) (c : Acts) (s : ℕ) (w : Option ℕ) → Going m b c → AtHearing b → s ≡ stamp_of m b.cfg b.frame (m.kind b.slot) →
      Going m (heard_on b w) (with_heard c b.frame b.slot b.other s w)
  hear_going b c s w g at es =
      let r = g.range in
      let small = (small_of m b.cfg (m.kind b.slot) b.other b.unit fit r.config at.call).from in
      let low : b.other < length b.places = rw r.places small in
      let ps = slice_set b.places b.other w in
      let c' = with_heard c b.frame b.slot b.other s w in
      let n = fit.numbered.there b.slot at.slot in
      record {
        range = range_place m fit b ps r small (length-set b.places b.other w ∙ r.places);
        progress = g.progress;
        left = g.left;
        meets = λ a h fate'.
            let free = free_place m fit b r at.slot small in
            let fate = fate_back m fit b b.subframe b.part b.slot (b.other + 1) ps c c' a h free.up (grows b c s w g at) fate' in
            let mt = g.meets a h fate in
            meets_on m fit b b.subframe b.part b.slot (b.other + 1) ps c c' a h free mt (acts_here b c s w a h g at es fate.cfg mt.acts)
            (λ part few sub p below call. dite (ℕ_discrete p b.other)
            (λ e. rw e (get_or-set_same b.places b.other w None low
            ∙ sym (fate'.heard b.frame (m.kind b.slot) b.other (hearing s c.progress w) (fit.numbered.slot b.slot at.slot)
            (rw n (put_here c.heard b.frame b.slot b.other (hearing s c.progress w))))))
            (λ ne. get_or-set_other b.places b.other p w None ne ∙ mt.places part few sub p (omega arith) call));
      }
