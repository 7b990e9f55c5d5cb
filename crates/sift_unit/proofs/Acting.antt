-- What a unit has said and heard up to a place, by one equation a place, as the place moves on.
use Rattle.std.proofs.Common.{◌≡◌, ◌≢◌, ℕ, ◌+◌, ◌<◌, ◌≤◌, List, true, Option, Some, None, sym, ap, ◌∙◌, subst, arith, option_map}
use Rattle.sift_base.specs.Units.{unit_limit}
use Rattle.sift_base.specs.declared.slots.Slot.{Slot}
use Rattle.sift_buffer.specs.Conduct.{Saying, Hearing, saying, hearing, with_said, with_heard}
use Rattle.sift_buffer.specs.Conduct.{Conduct as Acts}
use Rattle.sift_mission.specs.Data.{FlownMission, IsConfigOf}
use Rattle.sift_mission.specs.Slots.{is_slot, calls, stamp_of, heard_at}
use Rattle.sift_mission.specs.Fits.{Fits}
use Rattle.sift_mission.specs.laws.Calls.{call_of}
use Rattle.sift_conduct.specs.Acts.{stamp_and_moment}
use Rattle.sift_mission.specs.Stops.{hear_spot, say_spot}
use Rattle.sift_unit.specs.Desk.{is_past}
use Rattle.sift_unit.specs.Going.{Accounts, Words, word_in_frame, said_by, heard_by, ActsTo}
use Rattle.sift_unit.proofs.Tests.{choice_same, choice_none}
use Rattle.sift_unit.proofs.Past.{past_same, past_next, past_here, not_past_here, put_cases, spot_same}

-- the numbers of a call are in range
pub record Small (m : FlownMission) (k : Slot) (p q : ℕ) : Type 0 where
  pub few : m.slots ≤ 90
  pub slot : is_slot m k ≡ true
  pub number : m.number k < m.slots
  pub kind : m.kind (m.number k) ≡ k
  pub from : p < unit_limit
  pub to : q < unit_limit
  pub other : p ≢ q

-- those of each call are
pub small_of : (m : FlownMission) (us : List ℕ) (k : Slot) (p q : ℕ) → Fits m → IsConfigOf m us → calls m us k p q ≡ true → Small m k p q
small_of m us k p q fit config call =
    let c = call_of m us k p q call in
    let n = fit.numbered in
    let low = fit.counted.units in
    record { few = n.few; slot = c.slot; number = n.low k c.slot; kind = n.back k c.slot; from = low p (config.inside p c.from); to = low q (config.inside q c.to); other = c.other }

module _ (m : FlownMission) (fit : Fits m) (u : ℕ) (a : Accounts) (h : Words) (frame : ℕ) (us : List ℕ) (config : IsConfigOf m us) (mine : (a frame).cfg ≡ us) where
  cfg_at : (f : ℕ) → f ≡ frame → (a f).cfg ≡ us
  cfg_at f e = ap (λ z. (a z).cfg) e ∙ mine

  -- what was said is the same where the same is past
  said_moves : (fr at fr' at' f : ℕ) (k : Slot) (q : ℕ) →
      (calls m (a f).cfg k u q ≡ true → is_past fr at f (say_spot m (a f).cfg k q) ≡ is_past fr' at' f (say_spot m (a f).cfg k q)) →
      said_by m u a h fr at f k q ≡ said_by m u a h fr' at' f k q
  said_moves fr at fr' at' f k q same = choice_same {A = Saying} (calls m (a f).cfg k u q) (is_past fr at f (say_spot m (a f).cfg k q))
      (is_past fr' at' f (say_spot m (a f).cfg k q)) (Some (saying (stamp_of m (a f).cfg f k) (word_in_frame m u a h f k q))) same

  -- and so is what was heard
  heard_moves : (fr at fr' at' f : ℕ) (k : Slot) (p : ℕ) →
      (calls m (a f).cfg k p u ≡ true → is_past fr at f (hear_spot m (a f).cfg k p) ≡ is_past fr' at' f (hear_spot m (a f).cfg k p)) →
      heard_by m u a fr at f k p ≡ heard_by m u a fr' at' f k p
  heard_moves fr at fr' at' f k p same = choice_same {A = ℕ × ℕ} (calls m (a f).cfg k p u) (is_past fr at f (hear_spot m (a f).cfg k p))
      (is_past fr' at' f (hear_spot m (a f).cfg k p)) (Some (stamp_of m (a f).cfg f k, heard_at m (a f).cfg f k)) same

  said_within : (at at' f : ℕ) (k : Slot) (q : ℕ) → at ≤ at' → (f ≡ frame → calls m us k u q ≡ true → say_spot m us k q < at' → say_spot m us k q < at) →
      said_by m u a h frame at f k q ≡ said_by m u a h frame at' f k q
  said_within at at' f k q up quiet = said_moves frame at frame at' f k q (λ t. past_same frame at at' f (say_spot m (a f).cfg k q) up
      (λ e. subst (λ vs. say_spot m vs k q < at' → say_spot m vs k q < at) (sym (cfg_at f e)) (quiet e (subst (λ vs. calls m vs k u q ≡ true) (cfg_at f e) t))))

  heard_within : (at at' f : ℕ) (k : Slot) (p : ℕ) → at ≤ at' → (f ≡ frame → calls m us k p u ≡ true → hear_spot m us k p < at' → hear_spot m us k p < at) →
      heard_by m u a frame at f k p ≡ heard_by m u a frame at' f k p
  heard_within at at' f k p up quiet = heard_moves frame at frame at' f k p (λ t. past_same frame at at' f (hear_spot m (a f).cfg k p) up
      (λ e. subst (λ vs. hear_spot m vs k p < at' → hear_spot m vs k p < at) (sym (cfg_at f e)) (quiet e (subst (λ vs. calls m vs k p u ≡ true) (cfg_at f e) t))))

  -- past places at which there is nothing to say or hear
  pub acts_on : (c : Acts) (at at' : ℕ) → at ≤ at'
      → ((k : Slot) (q : ℕ) → calls m us k u q ≡ true → say_spot m us k q < at' → say_spot m us k q < at)
      → ((k : Slot) (p : ℕ) → calls m us k p u ≡ true → hear_spot m us k p < at' → hear_spot m us k p < at)
      → ActsTo m u c a h frame at → ActsTo m u c a h frame at'
  acts_on c at at' up says hears acts = record {
    said = λ f k q slot. acts.said f k q slot ∙ said_within at at' f k q up (λ e. says k q);
    heard = λ f k p slot. acts.heard f k p slot ∙ heard_within at at' f k p up (λ e. hears k p);
  }

  -- from the end of a frame to the next
  pub acts_next : (c : Acts) (at : ℕ)
      → ((k : Slot) (q : ℕ) → calls m us k u q ≡ true → say_spot m us k q < at)
      → ((k : Slot) (p : ℕ) → calls m us k p u ≡ true → hear_spot m us k p < at)
      → ActsTo m u c a h frame at → ActsTo m u c a h (frame + 1) 0
  acts_next c at says hears acts = record {
    said = λ f k q slot. acts.said f k q slot ∙ said_moves frame at (frame + 1) 0 f k q (λ t. past_next frame at f (say_spot m (a f).cfg k q)
        (λ e. subst (λ vs. say_spot m vs k q < at) (sym (cfg_at f e)) (says k q (subst (λ vs. calls m vs k u q ≡ true) (cfg_at f e) t))));
    heard = λ f k p slot. acts.heard f k p slot ∙ heard_moves frame at (frame + 1) 0 f k p (λ t. past_next frame at f (hear_spot m (a f).cfg k p)
        (λ e. subst (λ vs. hear_spot m vs k p < at) (sym (cfg_at f e)) (hears k p (subst (λ vs. calls m vs k p u ≡ true) (cfg_at f e) t))));
  }

  -- a slot's word is said once its place is past
  said_at : (at : ℕ) (k : Slot) (q : ℕ) → calls m us k u q ≡ true → say_spot m us k q < at →
      said_by m u a h frame at frame k q ≡ Some (saying (stamp_of m us frame k) (word_in_frame m u a h frame k q))
  said_at at k q call low = rw (
    subst (λ vs. calls m vs k u q ≡ true) (sym mine) call,
    past_here frame at (say_spot m (a frame).cfg k q) (subst (λ vs. say_spot m vs k q < at) (sym mine) low),
  ) (λ i. Some (saying (stamp_of m (mine i) frame k) (word_in_frame m u a h frame k q)))

  heard_here : (at : ℕ) (k : Slot) (p : ℕ) → calls m us k p u ≡ true → hear_spot m us k p < at →
      heard_by m u a frame at frame k p ≡ Some (stamp_of m us frame k, heard_at m us frame k)
  heard_here at k p call low = rw (
    subst (λ vs. calls m vs k p u ≡ true) (sym mine) call,
    past_here frame at (hear_spot m (a frame).cfg k p) (subst (λ vs. hear_spot m vs k p < at) (sym mine) low),
  ) (λ i. Some (stamp_of m (mine i) frame k, heard_at m (mine i) frame k))

  -- and isn't before
  pub said_none : (at : ℕ) (k : Slot) (q : ℕ) → at ≤ say_spot m us k q → said_by m u a h frame at frame k q ≡ None
  said_none at k q low = choice_none {A = Saying} (calls m (a frame).cfg k u q) _ _
      (not_past_here frame at (say_spot m (a frame).cfg k q) (subst (λ vs. at ≤ say_spot m vs k q) (sym mine) low))

  -- a slot's word isn't heard before its place is past
  pub heard_none : (at : ℕ) (k : Slot) (p : ℕ) → at ≤ hear_spot m us k p → heard_by m u a frame at frame k p ≡ None
  heard_none at k p low = choice_none {A = ℕ × ℕ} (calls m (a frame).cfg k p u) _ _
      (not_past_here frame at (hear_spot m (a frame).cfg k p) (subst (λ vs. at ≤ hear_spot m vs k p) (sym mine) low))

  -- past a place at which a word is said
  pub acts_said : (c : Acts) (k : Slot) (q s : ℕ) (w : Option ℕ) → calls m us k u q ≡ true → s ≡ stamp_of m us frame k → w ≡ word_in_frame m u a h frame k q
      → ActsTo m u c a h frame (say_spot m us k q) → ActsTo m u (with_said c frame (m.number k) q s w) a h frame (say_spot m us k (q + 1))
  acts_said c k q s w call es ew acts =
      let sm = small_of m us k u q fit config call in let s1 = sm.few in let s3 = sm.number in let s4 = sm.to in
      let from = say_spot m us k q in let to = say_spot m us k (q + 1) in
      record {
        said = λ f' k' q' slot. put_cases (λ (x : Option Saying). x ≡ said_by m u a h frame to f' k' q') c.said frame
            (m.number k) q (saying s w) f' (m.number k') q'
            (λ t. let ke : k' ≡ k = sym (fit.numbered.back k' slot) ∙ (ap m.kind t.1 ∙ sm.kind) in
            rw (t.0, ke, t.2) ((λ i. Some (saying (es i) (ew i))) ∙ sym (said_at to k q call (omega arith))))
            (λ away. acts.said f' k' q' slot ∙ said_within from to f' k' q' (omega arith) (λ e t low.
            let sm' = small_of m us k' u q' fit config t in let s3' = sm'.number in let s4' = sm'.to in
            let ne : say_spot m us k' q' ≢ say_spot m us k q = λ z. away
            (let o = spot_same (m.due us k') 2 (m.number k') q' (m.due us k) 2 (m.number k) q
            (omega arith) (omega arith) (omega arith) (omega arith) (omega arith) (omega arith) z in (e, o.slot, o.other)) in
            omega arith));
        heard = λ f' k' p' slot. acts.heard f' k' p' slot ∙ heard_within from to f' k' p' (omega arith)
            (λ e t low. let sm' = small_of m us k' p' u fit config t in let s3' = sm'.number in let s4' = sm'.from in omega arith);
      }

  -- past a place at which a word is heard
  pub acts_heard : (c : Acts) (k : Slot) (p s : ℕ) (w : Option ℕ) → calls m us k p u ≡ true → s ≡ stamp_of m us frame k → c.progress ≡ heard_at m us frame k
      → ActsTo m u c a h frame (hear_spot m us k p) → ActsTo m u (with_heard c frame (m.number k) p s w) a h frame (hear_spot m us k (p + 1))
  acts_heard c k p s w call es ep acts =
      let sm = small_of m us k p u fit config call in let s1 = sm.few in let s3 = sm.number in let s4 = sm.from in
      let from = hear_spot m us k p in let to = hear_spot m us k (p + 1) in
      record {
        said = λ f' k' q' slot. acts.said f' k' q' slot ∙ said_within from to f' k' q' (omega arith)
            (λ e t low. let sm' = small_of m us k' u q' fit config t in let s3' = sm'.number in let s4' = sm'.to in omega arith);
        heard = λ f' k' p' slot. put_cases (λ (x : Option Hearing). option_map stamp_and_moment x ≡ heard_by m u a frame to f' k' p') c.heard frame
            (m.number k) p (hearing s c.progress w) f' (m.number k') p'
            (λ t. let ke : k' ≡ k = sym (fit.numbered.back k' slot) ∙ (ap m.kind t.1 ∙ sm.kind) in
            rw (t.0, ke, t.2) ((λ i. Some (es i, ep i)) ∙ sym (heard_here to k p call (omega arith))))
            (λ away. acts.heard f' k' p' slot ∙ heard_within from to f' k' p' (omega arith) (λ e t low.
            let sm' = small_of m us k' p' u fit config t in let s3' = sm'.number in let s4' = sm'.from in
            let ne : hear_spot m us k' p' ≢ hear_spot m us k p = λ z. away
            (let o = spot_same (m.heard_in us k') 0 (m.number k') p' (m.heard_in us k) 0 (m.number k) p
            (omega arith) (omega arith) (omega arith) (omega arith) (omega arith) (omega arith) z in (e, o.slot, o.other)) in
            omega arith));
      }
