-- A faulty unit of the configuration that has this configuration and hasn't turned: it hears members, and takes their words for what they are.
use Rattle.std.proofs.Common.{◌≡◌, ◌≢◌, inl, inr, ℕ, List, ◌∷◌, map, Bool, true, false, not, ◌||◌, nat_eq, if◌then◌else◌, Option, None, Some, refl, sym, ap, ◌∙◌, subst, arith, ◌<◌}
use Rattle.std.proofs.lemmas.Bool.{cases_Bool, true≢false, and_from, eq-eqb, ne_eqb, lt-ltb}
use Rattle.std.proofs.lemmas.Bool.Decides.{eqb_tells}
use Rattle.sift_base.specs.Units.{has, others, HasMargin}
use Rattle.sift_base.specs.declared.slots.Slot.{Slot}
use Rattle.sift_base.specs.declared.slots.Slot.TheVariants.{Clock, Sense, RelaySense, Out, Report, RelayReport}
use Rattle.sift_agree.specs.laws.Taking.{working_unit_is_agreed_on}
use Rattle.sift_config.specs.Config.{reader_of}
use Rattle.sift_mission.specs.Data.{FlownMission}
use Rattle.sift_mission.specs.Slots.{calls, has_turned}
use Rattle.sift_mission.specs.laws.Calls.{Call, call_is}
use Rattle.sift_vote.specs.Majority.{agreed_of}
use Rattle.sift_conduct.specs.Conduct.{Conduct, report_in, report_of, said_of}
use Rattle.sift_conduct.specs.Frames.{Flies}
use Rattle.sift_flight.specs.Flight.{Flight, config_of, Strays}
use Rattle.sift_flight.proofs.Counting.{count-≤}
use Rattle.sift_flight.proofs.Working.{InFrame, Member, by_config, word, says, hears, config_here, flies, report_call}

-- a faulty unit of the configuration, which has it and hasn't turned
pub record FaultyMember (m : FlownMission) (fl : Flight) (f : ℕ) (us : List ℕ) (u : ℕ) : Type 0 where
  pub member : has us u ≡ true
  pub faulty : m.works u f ≡ false
  pub there : has_turned m u f ≡ false
  pub config : config_of fl u f ≡ us

-- one of two is so where the second is
pub or_true : (b : Bool) → (b || true) ≡ true
or_true true = refl
or_true false = refl

module _ (m : FlownMission) (strays : Strays) (fl : Flight) (f : ℕ) (us : List ℕ) (here : InFrame m strays fl f us) (u : ℕ) (fu : FaultyMember m fl f us u) where
  -- no working unit is the faulty one
  pub apart : (v : ℕ) → m.works v f ≡ true → v ≢ u
  apart v w same = true≢false (sym w ∙ (ap (λ x. m.works x f) same ∙ fu.faulty))

  flies_on : Flies m u f
  flies_on = record { unit = here.config.inside u fu.member; whole = fu.there }

  -- it conducts itself by this configuration
  pub conduct_in : Conduct (by_config m strays fl f us here us u)
  conduct_in =
      let e = fu.config in
      subst (λ c. Conduct (by_config m strays fl f us here c u)) e ((here.round.conduct u flies_on).busy (subst (λ c. has c u ≡ true) (sym e) fu.member))

  -- ---- whom it hears, and who hears it

  -- members say a slot to it and it says one to members, where the slot has it so
  pub from_member : (p : ℕ) (k : Slot) → Member m f us p → Call m us k p u → fl.heard u f k p ≡ word m strays fl f us here p k
  from_member p k wp call =
      let due = ap (λ c. m.due c k) (config_here m strays fl f us here p wp ∙ sym fu.config) in
      (here.round.hearing u k p flies_on).heard
      (subst (λ c. calls m c k p u ≡ true) (sym fu.config) (call_is m us k p u call))
      (here.flyable.script.whole p f wp.works) ∙ (rw (eq-eqb _ _ due) refl ∙ says m strays fl f us here p u k wp call)

  -- where the script leaves it its own word, a member hears that
  pub by_member : (q : ℕ) (k : Slot) → Member m f us q → Call m us k u q → m.override u f k q ≡ None → fl.heard q f k u ≡ word m strays fl f us here u k
  by_member q k wq call own =
      let cq = config_here m strays fl f us here q wq in
      let due = ap (λ c. m.due c k) (fu.config ∙ sym cq) in
      let said = (here.round.conduct u flies_on).said k q
      ∙ (ap (λ c. said_of (by_config m strays fl f us here c u) k q) fu.config ∙ rw (call_is m us k u q call, own) refl) in
      (here.round.hearing q k u (flies m strays fl f us here q wq)).heard (subst (λ c. calls m c k u q ≡ true) (sym cq) (call_is m us k u q call)) fu.there
      ∙ (rw (eq-eqb _ _ due) refl ∙ said)

  -- the calls by which they do: a sensor's word, its relay, a result, a report's relay, a clock
  pub sense_from : (x q : ℕ) → x < m.sensors → q ≡ reader_of us x → Member m f us q → Call m us (Sense x) q u
  sense_from x q low reads wq =
      record { slot = lt-ltb x m.sensors low; from = wq.member; to = fu.member; other = apart q wq.works; sender = eq-eqb q (reader_of us x) reads }

  pub relay_from : (x q : ℕ) → x < m.sensors → q ≢ reader_of us x → Member m f us q → Call m us (RelaySense x) q u
  relay_from x q low not_reader wq =
      record { slot = lt-ltb x m.sensors low; from = wq.member; to = fu.member; other = apart q wq.works; sender = ap not (ne_eqb q (reader_of us x) not_reader) }

  pub out_from : (w q : ℕ) → w < m.words → m.executes us w q ≡ true → Member m f us q → Call m us (Out w) q u
  out_from w q low runs wq = record { slot = lt-ltb w m.words low; from = wq.member; to = fu.member; other = apart q wq.works; sender = runs }

  pub clock_from : (q : ℕ) → Member m f us q → Call m us Clock q u
  clock_from q wq = record { slot = refl; from = wq.member; to = fu.member; other = apart q wq.works; sender = refl }

  pub report_from : (q : ℕ) → Member m f us q → Call m us Report q u
  report_from q wq = record { slot = refl; from = wq.member; to = fu.member; other = apart q wq.works; sender = refl }

  pub relayed_from : (r q : ℕ) → Member m f us r → Member m f us q → q ≢ r → Call m us (RelayReport r) q u
  relayed_from r q wr wq ne = record {
    slot = here.config.inside r wr.member;
    from = wq.member;
    to = fu.member;
    other = apart q wq.works;
    sender = and_from (has us r) _ wr.member (and_from (not (nat_eq q r)) _ (ap not (ne_eqb q r ne)) (ap not (ne_eqb u r (λ e. apart r wr.works (sym e)))));
  }

  pub sense_to : (x q : ℕ) → x < m.sensors → reader_of us x ≡ u → Member m f us q → Call m us (Sense x) u q
  sense_to x q low reads wq =
      record { slot = lt-ltb x m.sensors low; from = fu.member; to = wq.member; other = λ e. apart q wq.works (sym e); sender = eq-eqb u (reader_of us x) (sym reads) }

  pub relay_to : (x q : ℕ) → x < m.sensors → u ≢ reader_of us x → Member m f us q → Call m us (RelaySense x) u q
  relay_to x q low not_reader wq = record {
    slot = lt-ltb x m.sensors low;
    from = fu.member;
    to = wq.member;
    other = λ e. apart q wq.works (sym e);
    sender = ap not (ne_eqb u (reader_of us x) not_reader);
  }

  pub out_to : (w q : ℕ) → w < m.words → m.executes us w u ≡ true → Member m f us q → Call m us (Out w) u q
  out_to w q low runs wq = record { slot = lt-ltb w m.words low; from = fu.member; to = wq.member; other = λ e. apart q wq.works (sym e); sender = runs }

  pub clock_to : (q : ℕ) → Member m f us q → Call m us Clock u q
  clock_to q wq = record { slot = refl; from = fu.member; to = wq.member; other = λ e. apart q wq.works (sym e); sender = refl }

  -- ---- among the working units and it, nobody misreads a member

  -- who works, and it
  abbrev pub hearers : ℕ → Bool
  hearers v = m.works v f || nat_eq v u

  pub wider : (v : ℕ) → m.works v f ≡ true → hearers v ≡ true
  wider v t = rw t refl

  pub itself : hearers u ≡ true
  itself = rw (eq-eqb u u refl) (or_true (m.works u f))

  -- a hearer of the configuration is a member, or it
  pub hearer_is : (v : ℕ) → has us v ≡ true → hearers v ≡ true → v ≢ u → Member m f us v
  hearer_is v hv t ne = elim (cases_Bool (m.works v f)) [
    | inl w ↦ record { member = hv; works = w }
    | inr f ↦ absurd (true≢false (sym t ∙ rw (f, ne_eqb v u ne) refl))
  ]

  -- the margin is theirs too
  pub margin_in : HasMargin hearers us
  margin_in = record {
    few = omega (
      arith,
      here.margin.few,
      count-≤ (λ v. not (hearers v)) (λ v. not (m.works v f)) us
          (λ v hv t. elim (cases_Bool (m.works v f)) [ inr f ↦ ap not f | inl w ↦ absurd (true≢false (sym t ∙ rw w refl)) ]),
    );
    enough = omega (arith, here.margin.enough, count-≤ (λ v. m.works v f) hearers us (λ v hv. wider v));
  }

  -- what it takes for the word of a member that says the same to all, and whose word members relay, is that word
  pub takes : (s said : ℕ) (direct relayed : ℕ → Option ℕ) → Member m f us s
      → ((r : ℕ) → Member m f us r → r ≢ s → direct r ≡ Some said) → direct u ≡ Some said
      → ((r : ℕ) → Member m f us r → r ≢ s → relayed r ≡ direct r)
      → agreed_of (direct u ∷ map relayed (others u (others s us))) ≡ said
  takes s said direct relayed ws says_it hears_it relays_it =
      let heard : ℕ → ℕ → Option ℕ = λ q p. if nat_eq q u then relayed p else direct p in
      let agreed = working_unit_is_agreed_on hearers us s u said direct heard here.config.ascending margin_in
      (λ q r hq wq hr wr qs rs ne. elim (eqb_tells q u) [
        | inl e ↦ rw e.0 (relays_it r (hearer_is r hr wr (λ x. ne (x ∙ sym e.1))) rs)
        | inr e ↦ rw e.0 refl
      ])
      ws.member (wider s ws.works)
      (λ r hr wr rs. elim (eqb_tells r u) [
        | inl e ↦ ap direct e.1 ∙ hears_it
        | inr e ↦ says_it r (hearer_is r hr wr e.1) rs
      ])
      fu.member itself (λ e. apart s ws.works (sym e)) in
      let all : heard u ≡ relayed = (λ i p. if eq-eqb u u refl i then relayed p else direct p) in
      subst (λ g. agreed_of (direct u ∷ map g (others u (others s us))) ≡ said) all agreed

  -- so it takes a member's report for the member's own
  pub report_in_view : (r : ℕ) → Member m f us r → report_of us u (fl.account u f) (fl.heard u f) r ≡ report_in (fl.account r f)
  report_in_view r wr =
      rw (ne_eqb r u (apart r wr.works)) (takes r (report_in (fl.account r f)) (λ q. fl.heard q f Report r) (λ p. fl.heard u f (RelayReport r) p) wr
      (λ v wv vr. hears m strays fl f us here v r Report wv wr (report_call m strays fl f us here r v wr wv (λ e. vr (sym e))))
      (from_member r Report wr (report_from r wr))
      (λ v wv vr. from_member v (RelayReport r) wv (relayed_from r v wr wv vr)))
