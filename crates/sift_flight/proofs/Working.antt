-- One frame of a round flight whose working units share a configuration with margin: what they say to each other they hear.
use Rattle.std.proofs.Common.{false, ◌≡◌, ◌≢◌, ℕ, ◌<◌, List, true, not, ◌&&◌, nat_eq, Option, refl, sym, ap, ◌∙◌, subst, lt-ltb, eq-eqb, ne_eqb}
use Rattle.std.proofs.lemmas.Bool.{and_from}
use Rattle.sift_base.specs.Units.{has, HasMargin}
use Rattle.sift_base.specs.declared.slots.Slot.{Slot}
use Rattle.sift_base.specs.declared.slots.Slot.TheVariants.{Clock, Sense, RelaySense, Out, Report, RelayReport}
use Rattle.sift_config.specs.Config.{reader_of}
use Rattle.sift_skew.specs.Keeping.{AreTogether}
use Rattle.sift_mission.specs.Data.{FlownMission, IsConfigOf}
use Rattle.sift_mission.specs.Slots.{calls}
use Rattle.sift_mission.specs.Premises.{IsFlyable}
use Rattle.sift_mission.specs.laws.Calls.{Call, call_is}
use Rattle.sift_conduct.specs.Conduct.{UnitFrame, unit_frame, own_word, said_of, Conduct}
use Rattle.sift_conduct.specs.Frames.{last_of, Flies}
use Rattle.sift_flight.specs.Flight.{Flight, config_of, Strays, RoundAt}
use Rattle.sift_flight.specs.Figures.{Works}

-- frame f is one of a round flight, and us is the configuration of all units that work in it
pub record InFrame (m : FlownMission) (strays : Strays) (fl : Flight) (f : ℕ) (us : List ℕ) : Type 0 where
  pub flyable : IsFlyable m
  pub round : RoundAt m strays fl f
  pub share : (u : ℕ) → Works m u f → (config_of fl u f ≡ us) × (has us u ≡ true)
  pub config : IsConfigOf m us
  pub margin : HasMargin (λ u. m.works u f) us
  pub together : AreTogether m.skew us (λ u. m.works u f) (λ u. (fl.account u f).clk)

-- a working unit of the configuration
pub record Member (m : FlownMission) (f : ℕ) (us : List ℕ) (u : ℕ) : Type 0 where
  pub member : has us u ≡ true
  pub works : m.works u f ≡ true

module _ (m : FlownMission) (strays : Strays) (fl : Flight) (f : ℕ) (us : List ℕ) (here : InFrame m strays fl f us) where
  -- a member is a unit of the mission that works, and so it has not turned
  pub works_in : (u : ℕ) → Member m f us u → Works m u f
  works_in u w = record { unit = here.config.inside u w.member; works = w.works }

  -- a unit of the mission that works is a member
  pub member_of : (u : ℕ) → Works m u f → Member m f us u
  member_of u w = record { member = (here.share u w).1; works = w.works }

  -- a member flies
  pub flies : (u : ℕ) → Member m f us u → Flies m u f
  flies u w = record { unit = here.config.inside u w.member; whole = here.flyable.script.whole u f w.works }

  -- by this configuration
  pub config_here : (u : ℕ) → Member m f us u → config_of fl u f ≡ us
  config_here u w = (here.share u (works_in u w)).0

  -- a unit in the frame, by this configuration
  abbrev pub by_config : List ℕ → ℕ → UnitFrame
  by_config c u = unit_frame m c u f (fl.account u f) (fl.heard u f) (last_of m (fl.account u) f)

  -- a member does in the frame what a unit of this configuration ought to do
  pub conduct_here : (u : ℕ) → Member m f us u → Conduct (by_config us u)
  conduct_here u w =
      let e = config_here u w in
      subst (λ c. Conduct (by_config c u)) e ((here.round.conduct u (flies u w)).busy (subst (λ c. has c u ≡ true) (sym e) w.member))

  -- a member isn't idle
  pub busy_here : (u : ℕ) → Member m f us u → (fl.account u f).idle ≡ false
  busy_here u w = (conduct_here u w).busy

  abbrev pub word : ℕ → Slot → Option ℕ
  word u k = own_word (by_config us u) k

  -- a member says its own words
  pub says : (p q : ℕ) (k : Slot) → Member m f us p → Call m us k p q → fl.said p f k q ≡ word p k
  says p q k w call =
      (here.round.conduct p (flies p w)).said k q
      ∙ (ap (λ c. said_of (by_config c p) k q) (config_here p w)
      ∙ rw (call_is m us k p q call, here.flyable.script.own_words p f k q w.works) refl)

  -- and members hear them
  pub hears : (q p : ℕ) (k : Slot) → Member m f us q → Member m f us p → Call m us k p q → fl.heard q f k p ≡ word p k
  hears q p k wq wp call =
      let cq = config_here q wq in
      let due = ap (λ c. m.due c k) (config_here p wp ∙ sym cq) in
      (here.round.hearing q k p (flies q wq)).heard (subst (λ c. calls m c k p q ≡ true) (sym cq) (call_is m us k p q call))
      (here.flyable.script.whole p f wp.works) ∙ (rw (eq-eqb _ _ due) refl ∙ says p q k wp call)

  -- ---- who says what to whom

  -- a member says its clock's word to each other member
  pub clock_call : (p q : ℕ) → Member m f us p → Member m f us q → p ≢ q → Call m us Clock p q
  clock_call p q wp wq ne = record { slot = refl; from = wp.member; to = wq.member; other = ne; sender = refl }

  -- a member says its report to each other member
  pub report_call : (p q : ℕ) → Member m f us p → Member m f us q → p ≢ q → Call m us Report p q
  report_call p q wp wq ne = record { slot = refl; from = wp.member; to = wq.member; other = ne; sender = refl }

  -- the member that reads a sensor says the sensor's word to each other member
  pub sense_call : (x p q : ℕ) → x < m.sensors → reader_of us x ≡ p → Member m f us p → Member m f us q → p ≢ q → Call m us (Sense x) p q
  sense_call x p q low e wp wq ne =
      record { slot = lt-ltb x m.sensors low; from = wp.member; to = wq.member; other = ne; sender = eq-eqb p (reader_of us x) (sym e) }

  -- a member that doesn't read a sensor relays the sensor's word to each other member
  pub relay_call : (x p q : ℕ) → x < m.sensors → reader_of us x ≢ p → Member m f us p → Member m f us q → p ≢ q → Call m us (RelaySense x) p q
  relay_call x p q low e wp wq ne =
      record { slot = lt-ltb x m.sensors low; from = wp.member; to = wq.member; other = ne; sender = ap not (ne_eqb p (reader_of us x) (λ z. e (sym z))) }

  -- a member that runs the task of a word says the word to each other member
  pub out_call : (w p q : ℕ) → w < m.words → m.executes us w p ≡ true → Member m f us p → Member m f us q → p ≢ q → Call m us (Out w) p q
  out_call w p q low e wp wq ne = record { slot = lt-ltb w m.words low; from = wp.member; to = wq.member; other = ne; sender = e }

  -- a member relays the report of another unit of the configuration to each member but these two
  pub relayed_call : (s p q : ℕ) → has us s ≡ true → Member m f us p → Member m f us q → p ≢ s → q ≢ s → p ≢ q → Call m us (RelayReport s) p q
  relayed_call s p q hs wp wq ps qs ne = record {
    slot = here.config.inside s hs;
    from = wp.member;
    to = wq.member;
    other = ne;
    sender = and_from (has us s) (not (nat_eq p s) && not (nat_eq q s)) hs (and_from (not (nat_eq p s)) (not (nat_eq q s)) (ap not (ne_eqb p s ps)) (ap not (ne_eqb q s qs)));
  }
