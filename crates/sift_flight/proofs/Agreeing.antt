-- Working units agree on sensors and on reports.
use Rattle.std.proofs.Common.{◌≡◌, inl, inr, ℕ, ◌<◌, List, Bool, true, false, nat_eq, slice_index, refl, sym, ap, ◌∙◌}
use Rattle.std.proofs.lemmas.Bool.{cases_Bool, ne_eqb}
use Rattle.std.proofs.lemmas.Bool.Decides.{eqb_tells}
use Rattle.sift_base.specs.Units.{has}
use Rattle.sift_base.specs.declared.slots.Slot.TheVariants.{Sense, RelaySense, Report, RelayReport}
use Rattle.sift_config.specs.Config.{reader_of}
use Rattle.sift_agree.specs.Agreement.{RelaysWell}
use Rattle.sift_agree.specs.laws.Taking.{faulty_unit_is_agreed_on, working_unit_is_agreed_on}
use Rattle.sift_mission.specs.Data.{FlownMission}
use Rattle.sift_conduct.specs.Conduct.{report_in, report_of}
use Rattle.sift_flight.specs.Flight.{Flight, Strays}
use Rattle.sift_flight.proofs.Working.{InFrame, Member, conduct_here, hears, sense_call, relay_call, report_call, relayed_call}

-- a unit that works isn't one that doesn't
differs_in_work : (works : ℕ → Bool) (s u : ℕ) → works s ≡ false → works u ≡ true → nat_eq s u ≡ false
differs_in_work works s u fs wu = ne_eqb s u (λ e. let t = ap works e in cc)

module _ (m : FlownMission) (strays : Strays) (fl : Flight) (f : ℕ) (us : List ℕ) (here : InFrame m strays fl f us) where
  -- ---- sensors

  sensor_relays : (x : ℕ) → x < m.sensors
      → RelaysWell (λ u. m.works u f) us (reader_of us x) (λ q. fl.heard q f (Sense x) (reader_of us x)) (λ q p. fl.heard q f (RelaySense x) p)
  sensor_relays x low q r hq wq hr wr qs rs ne =
      let q' : Member m f us q = record { member = hq; works = wq } in
      let r' : Member m f us r = record { member = hr; works = wr } in
      hears m strays fl f us here q r (RelaySense x) q' r' (relay_call m strays fl f us here x r q low (λ e. rs (sym e)) r' q' ne)

  -- the word of a sensor that a working unit reads is the mission's
  pub sensor_own : (x : ℕ) → x < m.sensors → Member m f us (reader_of us x) → (q : ℕ) → Member m f us q → slice_index (fl.account q f).ins x ≡ m.sensed x f
  sensor_own x low ws q wq =
      let s : ℕ = reader_of us x in
      (conduct_here m strays fl f us here q wq).inputs x low ∙ elim (eqb_tells (reader_of us x) q) [
        | inl e ↦ rw e.0 refl
        | inr e ↦ rw e.0 (working_unit_is_agreed_on (λ u. m.works u f) us s q (m.sensed x f) (λ p. fl.heard p f (Sense x) (reader_of us x)) (λ p r. fl.heard p f (RelaySense x) r)
            here.config.ascending here.margin (sensor_relays x low) ws.member ws.works
            (λ r hr wr ne. let r' : Member m f us r = record { member = hr; works = wr } in
            hears m strays fl f us here r s (Sense x) r' ws (sense_call m strays fl f us here x s r low refl ws r' (λ e2. ne (sym e2))))
            wq.member wq.works (λ e2. e.1 (sym e2)))
      ]

  -- all working units have the same word of each sensor
  pub sensor_same : (x : ℕ) → x < m.sensors → has us (reader_of us x) ≡ true → (p q : ℕ) → Member m f us p → Member m f us q
      → slice_index (fl.account p f).ins x ≡ slice_index (fl.account q f).ins x
  sensor_same x low hs p q wp wq =
      elim (cases_Bool (m.works (reader_of us x) f)) [
        | inl ws ↦
            let s : Member m f us (reader_of us x) = record { member = hs; works = ws } in
            sensor_own x low s p wp ∙ sym (sensor_own x low s q wq)
        | inr fs ↦
            let not_p = differs_in_work (λ u. m.works u f) (reader_of us x) p fs wp.works in
            let not_q = differs_in_work (λ u. m.works u f) (reader_of us x) q fs wq.works in
            (conduct_here m strays fl f us here p wp).inputs x low
            ∙ (rw (not_p, not_q) (faulty_unit_is_agreed_on (λ u. m.works u f) us (reader_of us x) p q (λ a. fl.heard a f (Sense x) (reader_of us x)) (λ a r. fl.heard a f (RelaySense x) r)
            here.config.ascending here.margin (sensor_relays x low) hs fs wp.member wp.works wq.member wq.works)
            ∙ sym ((conduct_here m strays fl f us here q wq).inputs x low))
      ]

  -- ---- reports

  report_relays : (s : ℕ) → has us s ≡ true → RelaysWell (λ u. m.works u f) us s (λ q. fl.heard q f Report s) (λ q p. fl.heard q f (RelayReport s) p)
  report_relays s hs q r hq wq hr wr qs rs ne =
      let q' : Member m f us q = record { member = hq; works = wq } in
      let r' : Member m f us r = record { member = hr; works = wr } in
      hears m strays fl f us here q r (RelayReport s) q' r' (relayed_call m strays fl f us here s r q hs r' q' rs qs ne)

  -- the report that q takes for that of r
  abbrev pub report : ℕ → ℕ → ℕ
  report q r = report_of us q (fl.account q f) (fl.heard q f) r

  -- a working unit's report is taken as its own
  pub report_own : (q r : ℕ) → Member m f us q → Member m f us r → report q r ≡ report_in (fl.account r f)
  report_own q r wq wr =
      elim (eqb_tells r q) [
        | inl e ↦ rw e.0 (ap (λ u. report_in (fl.account u f)) (sym e.1))
        | inr e ↦ rw e.0 (working_unit_is_agreed_on (λ u. m.works u f) us r q (report_in (fl.account r f)) (λ p. fl.heard p f Report r) (λ p v. fl.heard p f (RelayReport r) v)
            here.config.ascending here.margin (report_relays r wr.member) wr.member wr.works
            (λ v hv wv ne. let v' : Member m f us v = record { member = hv; works = wv } in
            hears m strays fl f us here v r Report v' wr (report_call m strays fl f us here r v wr v' (λ e2. ne (sym e2))))
            wq.member wq.works (λ e2. e.1 (sym e2)))
      ]

  -- all working units take the same report for each unit's
  pub report_same : (p q r : ℕ) → Member m f us p → Member m f us q → has us r ≡ true → report p r ≡ report q r
  report_same p q r wp wq hr =
      elim (cases_Bool (m.works r f)) [
        | inl wr ↦ let r' : Member m f us r = record { member = hr; works = wr } in report_own p r wp r' ∙ sym (report_own q r wq r')
        | inr fr ↦
            let not_p = differs_in_work (λ u. m.works u f) r p fr wp.works in
            let not_q = differs_in_work (λ u. m.works u f) r q fr wq.works in
            rw (not_p, not_q) (faulty_unit_is_agreed_on (λ u. m.works u f) us r p q (λ a. fl.heard a f Report r) (λ a v. fl.heard a f (RelayReport r) v)
            here.config.ascending here.margin (report_relays r hr) hr fr wp.member wp.works wq.member wq.works)
      ]
