-- What the memory holds of a slot, once all of it was heard.
use Rattle.std.proofs.Common.{◌≡◌, ◌≢◌, inl, inr, ℕ, ◌<◌, List, ◌∷◌, length, true, not, nat_eq, Option}
use Rattle.std.proofs.Common.{None, Some, refl, sym, ap, ◌∙◌, subst, arith, ne_eqb, eqb-true, ltb-true, lt-ltb, get_or-set_same}
use Rattle.std.specs.Prelude.{ℤ, ◌+ℤ◌, if◌then◌else◌, slice_index}
use Rattle.std.specs.FinSet as set
use Rattle.std.proofs.lemmas.Bool.{cases_Bool, eq-eqb, not-true, and_from, eqb-false}
use Rattle.sift_base.specs.Units.{has, holds, others}
use Rattle.sift_base.specs.declared.slots.Slot.{Slot}
use Rattle.sift_base.specs.declared.slots.Slot.TheVariants.{Clock, Sense, RelaySense, Out, Report, RelayReport}
use Rattle.sift_base.specs.laws.Others.{has-others}
use Rattle.sift_base.specs.laws.Counts.{of_filtered, map-same}
use Rattle.sift_base.specs.laws.ReadBack.{and_in}
use Rattle.sift_vote.specs.Majority.{majority_of, agreed_of, differs}
use Rattle.sift_config.specs.Config.{reader_of}
use Rattle.sift_clock.specs.Correction.{reading_of, is_too_far, correction_of}
use Rattle.sift_agree.specs.Agreement.{taken}
use Rattle.sift_mission.specs.Data.{FlownMission, IsConfigOf}
use Rattle.sift_mission.specs.Slots.{executors, is_held, is_slot, is_senders, calls}
use Rattle.sift_mission.specs.Fits.{Fits}
use Rattle.sift_mission.specs.laws.Configs.{has-reader}
use Rattle.sift_mission.specs.laws.Silent.{not_held}
use Rattle.sift_mission.specs.laws.Calls.{call_is}
use Rattle.sift_conduct.specs.Conduct.{Account, Places, UnitFrame, unit_frame, polled, reading_by}
use Rattle.sift_unit_frame.specs.Memory.{Memory, place_at, reading_at, polled_at, poll_of, note}
use Rattle.sift_unit_frame.specs.Conditions.{IsShaped}
use Rattle.sift_unit_frame.specs.laws.Sets.{holds-gathered}
use Rattle.sift_unit.specs.Remembered.{Heard, Ran, polled_words, with_clock}

module _ (m : FlownMission) (us : List ℕ) (u f : ℕ) (clk : ℤ) (a : Account) (h : Places) (last : List ℕ) (fit : Fits m) (config : IsConfigOf m us) (member : has us u ≡ true) where
  -- the unit in the frame
  abbrev here : UnitFrame
  here = unit_frame m us u f a h last

  -- what was heard of a slot stands in the places
  abbrev AreHeard : Slot → List (Option ℕ) → Type 0
  AreHeard k heard = (p : ℕ) → calls m us k p u ≡ true → place_at heard p ≡ h k p

  -- u hears a slot from each other unit that says it
  calling : (k : Slot) (p : ℕ) → is_slot m k ≡ true → has us p ≡ true → p ≢ u → is_senders m us k p u ≡ true → calls m us k p u ≡ true
  calling k p slot from other sender = call_is m us k p u (record { slot = slot; from = from; to = member; other = other; sender = sender })

  -- the agreed word is the same where what was heard and relayed is
  taken-same : (s : ℕ) (d d' : Option ℕ) (g g' : ℕ → Option ℕ) → d ≡ d' → ((v : ℕ) → has us v ≡ true → v ≢ s → v ≢ u → g v ≡ g' v) →
      agreed_of (taken us s u (λ q. d) (λ q p. g p)) ≡ agreed_of (taken us s u (λ q. d') (λ q p. g' p))
  taken-same s d d' g g' e same =
      let relays = map-same g g' (others u (others s us)) (λ v t. let o = has-others u (others s us) v t in let i = has-others s us v o.0 in same v i.0 i.1 o.1) in
      λ i. agreed_of (e i ∷ relays i)

  -- u polls each executor's word as the equations say
  polled-same : (w : ℕ) (heard : List (Option ℕ)) (b : Memory) → AreHeard (Out w) heard → w < m.words → Ran here b w →
      (v : ℕ) → has us v ≡ true → m.executes us w v ≡ true → polled_at u b heard w v ≡ polled here w v
  polled-same w heard b places low ran v from e = elim (cases_Bool (nat_eq v u)) [
    | inl t ↦ rw t (ap Some (ran (subst (λ z. m.executes us w z ≡ true) (eqb-true v u t) e)))
    | inr t ↦ rw t (places v (calling (Out w) v (lt-ltb w m.words low) from (eqb-false v u t) e))
  ]

  -- and so all words of the poll
  poll-same : (w : ℕ) (heard : List (Option ℕ)) (b : Memory) → AreHeard (Out w) heard → w < m.words → Ran here b w →
      poll_of m us u b heard w ≡ polled_words here w
  poll-same w heard b places low ran = map-same (polled_at u b heard w) (polled here w) (executors m us w)
      (λ v t. let x = of_filtered (m.executes us w) us v t in polled-same w heard b places low ran v x.1 x.0)

  -- what the memory holds of a slot, by what was heard of it and of those before
  pub heard_new : (k : Slot) (heard : List (Option ℕ)) (b : Memory) → is_slot m k ≡ true → IsShaped m us u b
      → ((p : ℕ) → calls m us k p u ≡ true → place_at heard p ≡ h k p)
      → ((k' : Slot) → is_slot m k' ≡ true → m.heard_in us k' < m.heard_in us k → Heard here clk b k')
      → ((w : ℕ) → w < m.words → m.due us (Out w) < m.heard_in us k → Ran here b w)
      → Heard here clk (note m us u f clk last k heard b) k
  heard_new Clock heard b slot shape places before ran = (
    λ v. holds-gathered _ us v ∙ and_in (has us v) _ _ (λ t. and_in (not (nat_eq v u)) _ _ (λ o.
        ap (λ w. is_too_far (m.skew +ℤ m.error) (reading_of w clk (m.errors u v))) (places v (calling Clock v slot t (eqb-false v u (not-true _ o)) refl)))),
    ap (λ rs. clk +ℤ correction_of (m.skew +ℤ m.error) (length us) rs +ℤ m.drift u)
        (map-same (reading_at m u clk heard) (reading_by (with_clock here clk)) (others u us)
        (λ v t. let o = has-others u us v t in ap (λ w. reading_of w clk (m.errors u v)) (places v (calling Clock v slot o.0 o.1 refl)))),
  )
  heard_new (Sense x) heard b slot shape places before ran = λ other.
      let few : x < m.sensors = ltb-true x m.sensors slot in
      let long = shape.direct in let low : x < length b.direct = omega arith in
      let r = reader_of us x in
      get_or-set_same b.direct x _ None low ∙ places r (calling (Sense x) r slot (has-reader m us x config) (eqb-false r u other) (eq-eqb r r refl))
  heard_new (RelaySense x) heard b slot shape places before ran =
      let few : x < m.sensors = ltb-true x m.sensors slot in
      let low : x < length b.ins = rw shape.ins few in
      let long = shape.relay in let low' : x < length b.relay = omega arith in
      let early = fit.timed.relayed us x config few in
      let later = fit.timed.apart us (RelaySense x) config slot refl in
      let r = reader_of us x in
      let sense : Heard here clk b (Sense x) = before (Sense x) slot (omega arith) in (
        get_or-set_same b.ins x _ 0 low ∙ elim (cases_Bool (nat_eq (reader_of us x) u)) [
          | inl t ↦ rw t refl
          | inr t ↦ rw t (taken-same r (place_at b.direct x) (h (Sense x) r) (place_at heard) (h (RelaySense x)) (sense t)
              (λ v from ne other. places v (calling (RelaySense x) v slot from other (ap not (ne_eqb v r ne)))))
        ],
        λ v. ap (λ s. holds s v) (get_or-set_same b.relay x _ set.empty low') ∙ holds-gathered _ us v
            ∙ and_in (has us v) _ _ (λ t. and_in (not (nat_eq v u)) _ _ (λ o. and_in (nat_eq r u) _ _ (λ is.
            let other = eqb-false v u (not-true _ o) in
            ap (λ w. differs w (Some (m.sensed x f)))
            (places v (calling (RelaySense x) v slot t other (ap not (ne_eqb v r (λ e. other (e ∙ eqb-true r u is))))))))),
      )
  heard_new (Out w) heard b slot shape places before ran =
      let few : w < m.words = ltb-true w m.words slot in
      let low : w < length b.outs = rw shape.outs few in
      let long = shape.poll in let low' : w < length b.poll = omega arith in
      let made : Ran here b w = λ runs.
      let later = fit.timed.apart us (Out w) config slot (not_held m us w u fit.executors config few runs) in ran w few (omega arith) runs in
      let same = poll-same w heard b places few made in (
        get_or-set_same b.outs w _ 0 low ∙ ap (λ word. if is_held m us w then slice_index last w else agreed_of word) same,
        λ v. ap (λ s. holds s v) (get_or-set_same b.poll w _ set.empty low') ∙ holds-gathered _ us v
            ∙ and_in (has us v) _ _ (λ t. and_in (m.executes us w v) _ _ (λ e. λ i. differs (polled-same w heard b places few made v t e i) (majority_of (same i)))),
      )
  heard_new Report heard b slot shape places before ran = λ s from other. places s (calling Report s slot from other refl)
  heard_new (RelayReport s) heard b slot shape places before ran = λ from other.
      let long = shape.agreed in let unit = fit.counted.units s (config.inside s from) in let low : s < length b.agreed = omega arith in
      let early = fit.timed.reported us s config slot in
      let later = fit.timed.apart us (RelayReport s) config slot refl in
      get_or-set_same b.agreed s _ 0 low
      ∙ taken-same s (place_at b.reports s) (h Report s) (place_at heard) (h (RelayReport s)) (before Report refl (omega arith) s from other)
      (λ v from' ne other'. places v (calling (RelayReport s) v slot from' other'
      (and_from _ _ from (and_from _ _ (ap not (ne_eqb v s ne)) (ap not (ne_eqb u s (λ z. other (sym z))))))))
