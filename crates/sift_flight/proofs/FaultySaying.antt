-- A faulty unit that hasn't turned and says its own words is caught by no member: its sensors, its relays and so its results are what members have.
use Rattle.std.proofs.Common.{◌≡◌, ◌≢◌, inl, inr, ℕ, ◌<◌, List, slice_index, true, false, not, nat_eq, Option, Some, refl, sym, ap, ◌∙◌, subst, arith}
use Rattle.std.proofs.lemmas.Bool.{cases_Bool, true≢false, and_parts, eqb-true, ne_eqb}
use Rattle.std.proofs.lemmas.Bool.Decides.{eqb_tells}
use Rattle.std.proofs.lemmas.Grind.{same_number_lists}
use Rattle.sift_base.specs.Units.{has}
use Rattle.sift_base.specs.declared.slots.Slot.TheVariants.{Sense, RelaySense, Out}
use Rattle.sift_agree.specs.Agreement.{taken}
use Rattle.sift_agree.specs.laws.Taking.{working_unit_is_agreed_on}
use Rattle.sift_config.specs.Config.{reader_of}
use Rattle.sift_config.specs.laws.Readers.{reader_in}
use Rattle.sift_mission.specs.Data.{FlownMission}
use Rattle.sift_mission.specs.Slots.{is_held}
use Rattle.sift_vote.specs.Majority.{agreed_of}
use Rattle.sift_conduct.specs.Conduct.{made, polled, poll_catches, relay_catches}
use Rattle.sift_conduct.specs.Frames.{last_of}
use Rattle.sift_flight.specs.Flight.{Flight, Strays}
use Rattle.sift_flight.specs.Lies.{SaysItsOwn}
use Rattle.sift_flight.proofs.Agreeing.{sensor_own}
use Rattle.sift_flight.proofs.FaultyMember.{FaultyMember, apart, by_member, conduct_in, from_member, hearer_is, hearers, itself, margin_in, out_to, relay_from, relay_to, sense_from, sense_to, takes, wider}
use Rattle.sift_flight.proofs.FaultyRemoving.{rest_works}
use Rattle.sift_flight.proofs.FaultyVoting.{outputs_in}
use Rattle.sift_flight.proofs.Ideal.{IsStep}
use Rattle.sift_flight.proofs.Voting.{any_found, same_not_differs, vote_finds}
use Rattle.sift_flight.proofs.Working.{InFrame, Member, by_config, hears, conduct_here, relay_call, sense_call}

module _ (m : FlownMission) (strays : Strays) (fl : Flight) (f : ℕ) (us : List ℕ) (here : InFrame m strays fl f us) (u : ℕ) (fu : FaultyMember m fl f us u)
    (own : SaysItsOwn m f u) where
  -- ---- the words of sensors

  -- members take for the word of a sensor that it reads the mission's
  sensor_of_it : (x : ℕ) → x < m.sensors → reader_of us x ≡ u → (q : ℕ) → Member m f us q → slice_index (fl.account q f).ins x ≡ m.sensed x f
  sensor_of_it x low reads q wq =
      let direct : ℕ → ℕ → Option ℕ = λ s p. fl.heard p f (Sense x) s in
      let relayed : ℕ → ℕ → Option ℕ = λ p r. fl.heard p f (RelaySense x) r in
      let agreed = working_unit_is_agreed_on (hearers m strays fl f us here u fu) us u q (m.sensed x f) (direct u) relayed here.config.ascending (margin_in m strays fl f us here u fu)
      (λ p r hp wp hr wr ps rs ne.
      let p' = hearer_is m strays fl f us here u fu p hp wp ps in
      let r' = hearer_is m strays fl f us here u fu r hr wr rs in
      hears m strays fl f us here p r (RelaySense x) p' r' (relay_call m strays fl f us here x r p low (λ e. rs (sym e ∙ reads)) r' p' ne)
      ∙ ap (λ s. fl.heard r f (Sense x) s) reads)
      fu.member (itself m strays fl f us here u fu)
      (λ r hr wr rs.
      let r' = hearer_is m strays fl f us here u fu r hr wr rs in
      by_member m strays fl f us here u fu r (Sense x) r' (sense_to m strays fl f us here u fu x r low reads r') (own (Sense x) r refl))
      wq.member (wider m strays fl f us here u fu q wq.works) (apart m strays fl f us here u fu q wq.works) in
      (conduct_here m strays fl f us here q wq).inputs x low
      ∙ rw (ne_eqb (reader_of us x) q (λ e. apart m strays fl f us here u fu q wq.works (sym e ∙ reads)))
      (subst (λ s. agreed_of (taken us s q (direct s) relayed) ≡ m.sensed x f) (sym reads) agreed)

  -- and it takes the mission's for that of a sensor that a member reads
  sensor_of_member : (x : ℕ) → x < m.sensors → Member m f us (reader_of us x) → slice_index (fl.account u f).ins x ≡ m.sensed x f
  sensor_of_member x low ws =
      let s : ℕ = reader_of us x in
      (conduct_in m strays fl f us here u fu).inputs x low
      ∙ rw (ne_eqb s u (apart m strays fl f us here u fu s ws.works)) (takes m strays fl f us here u fu s (m.sensed x f) (λ q. fl.heard q f (Sense x) s) (λ p. fl.heard u f (RelaySense x) p) ws
      (λ v wv vr. hears m strays fl f us here v s (Sense x) wv ws (sense_call m strays fl f us here x s v low refl ws wv (λ e. vr (sym e))))
      (from_member m strays fl f us here u fu s (Sense x) ws (sense_from m strays fl f us here u fu x s low refl ws))
      (λ v wv vr. from_member m strays fl f us here u fu v (RelaySense x) wv (relay_from m strays fl f us here u fu x v low vr wv)))

  sensor_in : (x : ℕ) → x < m.sensors → (q : ℕ) → Member m f us q → slice_index (fl.account u f).ins x ≡ slice_index (fl.account q f).ins x
  sensor_in x low q wq = elim (eqb_tells (reader_of us x) u) [
    | inl e ↦ (conduct_in m strays fl f us here u fu).inputs x low ∙ (rw e.0 refl ∙ sym (sensor_of_it x low e.1 q wq))
    | inr e ↦
        let ws = rest_works m strays fl f us here u fu (reader_of us x) (reader_in us x (omega (arith, here.config.enough))) e.1 in
        sensor_of_member x low ws ∙ sym (sensor_own m strays fl f us here x low ws q wq)
  ]

  -- so it has the words of sensors that a member has
  inputs_in : (q : ℕ) → Member m f us q → (fl.account u f).ins ≡ (fl.account q f).ins
  inputs_in q wq =
      let c = (conduct_in m strays fl f us here u fu).inputs_count in
      let d = (conduct_here m strays fl f us here q wq).inputs_count in
      same_number_lists (fl.account u f).ins (fl.account q f).ins (c ∙ sym d) (λ x x_low. sensor_in x (omega (arith, c)) q wq)

  -- no member catches it for a relay
  pub none_relayed_in : (q : ℕ) → Member m f us q → relay_catches (by_config m strays fl f us here us q) u ≡ false
  none_relayed_in q wq = elim (cases_Bool (relay_catches (by_config m strays fl f us here us q) u)) [
    | inr e ↦ e
    | inl t ↦
        let found = any_found m.sensors _ (and_parts (not (nat_eq u q)) _ (and_parts (has us u) _ t).1).1 in
        let x : ℕ = found.0 in
        let both = and_parts (nat_eq (reader_of us x) q) _ found.2 in
        let reads : reader_of us x ≡ q = eqb-true (reader_of us x) q both.0 in
        let isnt_reader : u ≢ reader_of us x = λ e. apart m strays fl f us here u fu q wq.works (sym (e ∙ reads)) in
        let relayed = by_member m strays fl f us here u fu q (RelaySense x) wq (relay_to m strays fl f us here u fu x q found.1 isnt_reader wq) (own (RelaySense x) q refl) in
        let direct = from_member m strays fl f us here u fu q (Sense x) wq (sense_from m strays fl f us here u fu x q found.1 (sym reads) wq) in
        let all : fl.heard q f (RelaySense x) u ≡ Some (m.sensed x f) = relayed ∙ (ap (λ s. fl.heard u f (Sense x) s) reads ∙ direct) in
        absurd (same_not_differs (m.sensed x f) (rw all at both.1))
  ]

  -- ---- results

  module _ (ins before outs : List ℕ) (step : IsStep m us ins before outs)
      (same_ins : (v : ℕ) → Member m f us v → (fl.account v f).ins ≡ ins)
      (same_last : (v : ℕ) → Member m f us v → last_of m (fl.account v) f ≡ before)
      (own_last : last_of m (fl.account u) f ≡ before) where
    -- it makes the ideal words
    makes_in : (q : ℕ) → Member m f us q → (w : ℕ) → w < m.words → m.executes us w u ≡ true → made (by_config m strays fl f us here us u) w ≡ slice_index outs w
    makes_in q wq w low runs =
        let ins_are = inputs_in q wq ∙ same_ins q wq in
        let outs_are = outputs_in m strays fl f us here u fu ins before outs step same_ins same_last own_last in
        let kept : is_held m us w ≡ false = elim (cases_Bool (is_held m us w)) [
          | inr kept ↦ kept
          | inl held ↦ absurd (true≢false (sym runs ∙ here.flyable.fits.executors.none us w u here.config low held))
        ] in
        (λ i. m.word w (ins_are i) (outs_are i) (own_last i)) ∙ sym (rw kept at (step.makes w low))

    -- a member polls it as it is heard
    polled_is : (q w : ℕ) → u ≢ q → polled (by_config m strays fl f us here us q) w u ≡ fl.heard q f (Out w) u
    polled_is q w ne = rw (ne_eqb u q ne) refl

    -- so no member catches it for a result
    pub none_polled_in : (q : ℕ) → Member m f us q → poll_catches (by_config m strays fl f us here us q) u ≡ false
    none_polled_in q wq = elim (cases_Bool (poll_catches (by_config m strays fl f us here us q) u)) [
      | inr e ↦ e
      | inl t ↦
          let found = any_found m.words _ (and_parts (has us u) _ t).1 in
          let w : ℕ = found.0 in
          let both = and_parts (m.executes us w u) _ found.2 in
          let ne : u ≢ q = λ e. apart m strays fl f us here u fu q wq.works (sym e) in
          let heard : fl.heard q f (Out w) u ≡ Some (slice_index outs w) =
          by_member m strays fl f us here u fu q (Out w) wq (out_to m strays fl f us here u fu w q found.1 both.0 wq) (own (Out w) q refl)
          ∙ ap (λ x. Some x) (makes_in q wq w found.1 both.0) in
          let place : polled (by_config m strays fl f us here us q) w u ≡ Some (slice_index outs w) = polled_is q w ne ∙ heard in
          let vote = vote_finds m strays fl f us here ins before outs step same_ins same_last w found.1 u both.0 q wq in
          absurd (same_not_differs (slice_index outs w) (rw (place, vote) at both.1))
    ]
