-- A board says a word.
use Rattle.std.proofs.Common.{◌≡◌, ℕ, ◌+◌, ◌<◌, true, Option, None, sym, ap, ◌∙◌, subst, arith, eqb-true, ltb-true, lt-ltb, eq-eqb}
use Rattle.std.specs.Prelude.{unwrap_or}
use Rattle.std.proofs.lemmas.Bool.{and_parts, and_from}
use Rattle.sift_base.specs.Units.{has}
use Rattle.sift_buffer.specs.Conduct.{with_said}
use Rattle.sift_buffer.specs.Conduct.{Conduct as Acts}
use Rattle.sift_mission.specs.Data.{FlownMission}
use Rattle.sift_mission.specs.Slots.{calls, stamp_of}
use Rattle.sift_mission.specs.Fits.{Fits}
use Rattle.sift_mission.specs.laws.Calls.{call_of}
use Rattle.sift_mission.specs.laws.Tasks.{few_tasks}
use Rattle.sift_conduct.specs.Conduct.{own_word, unit_frame}
use Rattle.sift_conduct.specs.Acts.{heard_places}
use Rattle.sift_unit_frame.specs.Tidings.{word_now, word_to}
use Rattle.sift_mission.specs.Stops.{spot, say_spot}
use Rattle.sift_unit.specs.Desk.{Desk, cursor, is_saying, accounts_of, moved}
use Rattle.sift_unit.specs.Going.{Accounts, Words, word_in_frame, ActsTo, Fate, Meets, Going, desk_frame}
use Rattle.sift_unit.proofs.Made.{word_is}
use Rattle.sift_unit.proofs.Acting.{small_of, acts_said, said_none}
use Rattle.sift_unit.proofs.Standing.{stands}
use Rattle.sift_unit.proofs.Moving.{fate_back, meets_on, free_place, range_place}

module _ (m : FlownMission) (fit : Fits m) where
  -- where a board stands that says
  pub record AtSaying (b : Desk) : Type 0 where
    pub part : b.part ≡ 2
    pub slot : b.slot < m.slots
    pub subframe : b.subframe ≡ m.due b.cfg (m.kind b.slot)
    pub call : calls m b.cfg (m.kind b.slot) b.unit b.other ≡ true

  -- the test of it tells
  pub saying_is : (b : Desk) → is_saying m b ≡ true → AtSaying b
  saying_is b e = let t = and_parts _ _ e in let t' = and_parts _ _ t.1 in let t'' = and_parts _ _ t'.1 in
      record { part = eqb-true b.part 2 t.0; slot = ltb-true b.slot m.slots t'.0; subframe = eqb-true b.subframe _ t''.0; call = t''.1 }

  -- and the other way round
  pub saying_at : (b : Desk) → b.part ≡ 2 → b.slot < m.slots → b.subframe ≡ m.due b.cfg (m.kind b.slot) →
      calls m b.cfg (m.kind b.slot) b.unit b.other ≡ true → is_saying m b ≡ true
  saying_at b e low sub call = and_from _ _ (eq-eqb b.part 2 e) (and_from _ _ (lt-ltb b.slot m.slots low) (and_from _ _ (eq-eqb b.subframe _ sub) call))

  -- the place at which it stands
  here : (b : Desk) → AtSaying b → cursor b ≡ say_spot m b.cfg (m.kind b.slot) b.other
  here b at = let s = at.subframe in let p = at.part in let n = fit.numbered.there b.slot at.slot in omega arith

  -- and the next
  next : (b : Desk) → AtSaying b → spot b.subframe b.part b.slot (b.other + 1) ≡ say_spot m b.cfg (m.kind b.slot) (b.other + 1)
  next b at = let s = at.subframe in let p = at.part in let n = fit.numbered.there b.slot at.slot in omega arith

  -- nothing was said yet where it says
  pub say_none : (b : Desk) (c : Acts) → Going m b c → AtSaying b → c.said b.frame b.slot b.other ≡ None
  say_none b c g at =
      let st = stands m b c g.range in
      let a = accounts_of m b in
      let k = m.kind b.slot in
      let mt = g.meets (accounts_of m b) (heard_places m c) st in
      let none = said_none m fit b.unit a (heard_places m c) b.frame b.cfg g.range.config st.cfg (cursor b) k b.other (let e = here b at in omega arith) in
      subst (λ z. c.said b.frame z b.other ≡ None) (fit.numbered.there b.slot at.slot) (mt.acts.said b.frame k b.other (fit.numbered.slot b.slot at.slot) ∙ none)

  -- the word to say here
  abbrev pub word_here : Desk → Option ℕ
  word_here b = word_to m b.cfg b.unit b.frame b.clk b.memory (m.kind b.slot) b.other

  -- it is the one of the equations
  word_said_here : (b : Desk) (c : Acts) (a : Accounts) (h : Words) → Going m b c → AtSaying b → Fate m b c a h → Meets m b c a h →
      word_here b ≡ word_in_frame m b.unit a h b.frame (m.kind b.slot) b.other
  word_said_here b c a h g at fate mt =
      let config = g.range.config in
      let few = fit.numbered.few in
      let sub = at.subframe in
      let part = at.part in
      let k = m.kind b.slot in
      let member : has b.cfg b.unit ≡ true = (call_of m b.cfg (m.kind b.slot) b.unit b.other at.call).from in
      let rm = mt.remembers member in
      let word : word_now m b.cfg b.frame b.clk b.memory (m.kind b.slot) ≡ own_word (desk_frame m b a h) (m.kind b.slot)
      = word_is m b.cfg b.unit b.frame b.clk (a b.frame) (h b.frame) b.last fit config k b.other b.memory at.call fate.clk
      (λ k' slot low. rm.heard k' slot (let nk = fit.numbered.low k' slot in omega arith))
      (λ w few' low. rm.ran w few' (let nk = fit.counted.task w few' in let nt = few_tasks m fit in let e = fit.timed.run b.cfg w config few' in omega arith))
      (λ low. (fate.agrees member).settled (omega arith)) in
      let back : b.cfg ≡ (a b.frame).cfg = sym fate.cfg in
      ap (λ z. unwrap_or (m.override b.unit b.frame (m.kind b.slot) b.other) z)
      (word ∙ (λ i. own_word (unit_frame m (back i) b.unit b.frame (a b.frame) (h b.frame) (mt.last i)) (m.kind b.slot)))

  -- the board that has said a word
  abbrev pub said_on : Desk → Desk
  said_on b = moved b b.subframe b.part b.slot (b.other + 1) b.places

  -- the acts with the word said
  acts_here : (b : Desk) (c : Acts) (s : ℕ) (w : Option ℕ) (a : Accounts) (h : Words) → Going m b c → AtSaying b → s ≡ stamp_of m b.cfg b.frame (m.kind b.slot) →
      w ≡ word_in_frame m b.unit a h b.frame (m.kind b.slot) b.other → (a b.frame).cfg ≡ b.cfg → ActsTo m b.unit c a h b.frame (cursor b) →
      ActsTo m b.unit (with_said c b.frame b.slot b.other s w) a h b.frame (spot b.subframe b.part b.slot (b.other + 1))
  acts_here b c s w a h g at es ew mine acts =
      let past = acts_said m fit b.unit a h b.frame b.cfg g.range.config mine c (m.kind b.slot) b.other s w at.call es ew
      (subst (λ z. ActsTo m b.unit c a h b.frame z) (here b at) acts) in
      subst (λ z. ActsTo m b.unit (with_said c b.frame b.slot b.other s w) a h b.frame z) (sym (next b at))
      (subst (λ z. ActsTo m b.unit (with_said c b.frame z b.other s w) a h b.frame (say_spot m b.cfg (m.kind b.slot) (b.other + 1)))
      (fit.numbered.there b.slot at.slot) past)

  -- a board that says the word keeps what holds of it
  pub say_going : (b : Desk) (c : Acts) (s : ℕ) (w : Option ℕ) → Going m b c → AtSaying b → s ≡ stamp_of m b.cfg b.frame (m.kind b.slot) → w ≡ word_here b →
      Going m (said_on b) (with_said c b.frame b.slot b.other s w)
  say_going b c s w g at es ew =
      let r = g.range in
      let small = (small_of m b.cfg (m.kind b.slot) b.unit b.other fit r.config at.call).to in
      let c' = with_said c b.frame b.slot b.other s w in
      let part = at.part in
      record {
        range = range_place m fit b b.places r small r.places;
        progress = g.progress;
        left = g.left;
        meets = λ a h fate'.
            let free = free_place m fit b r at.slot small in
            let fate = fate_back m fit b b.subframe b.part b.slot (b.other + 1) b.places c c' a h free.up (λ f k p x slot e. e) fate' in
            let mt = g.meets a h fate in
            let word = ew ∙ word_said_here b c a h g at fate mt in
            meets_on m fit b b.subframe b.part b.slot (b.other + 1) b.places c c' a h free mt (acts_here b c s w a h g at es word fate.cfg mt.acts)
            (λ zero few sub p below call. absurd (omega arith));
      }
