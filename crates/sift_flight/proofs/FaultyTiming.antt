-- The clock of a faulty unit that hasn't turned stays with members' clocks, whatever it showed them: it reads theirs as they do.
use Rattle.std.proofs.Common.{◌≡◌, inl, inr, ℕ, List, Bool, true, false, not, nat_eq, Option, None, Some, ℤ, pos, sym, ap, ◌∙◌, subst, arith}
use Rattle.std.specs.Prelude.{◌+ℤ◌, ◌-ℤ◌, ◌≤ℤ◌}
use Rattle.std.proofs.lemmas.Bool.{cases_Bool, and_parts}
use Rattle.std.proofs.lemmas.Bool.Decides.{eqb_tells}
use Rattle.std.proofs.lemmas.Int.{ints}
use Rattle.sift_base.specs.Units.{has}
use Rattle.sift_base.specs.Word.{word_of}
use Rattle.sift_base.specs.declared.slots.Slot.TheVariants.{Clock}
use Rattle.sift_clock.specs.Correction.{is_too_far, reading_of}
use Rattle.sift_clock.specs.Distance.{IsWithin}
use Rattle.sift_skew.specs.Keeping.{AreReaders, AreTogether, ReadsWell, next_offsets}
use Rattle.sift_skew.specs.laws.Readings.{heard_clocks_are_read_well, words_are_read_right}
use Rattle.sift_skew.proofs.lemmas.Keeps.{readers_are_kept_with_margin}
use Rattle.sift_mission.specs.Data.{FlownMission}
use Rattle.sift_conduct.specs.Conduct.{clock_catches}
use Rattle.sift_flight.specs.Flight.{Flight, Strays}
use Rattle.sift_flight.proofs.FaultyMember.{FaultyMember, by_member, clock_from, clock_to, conduct_in, from_member, hearer_is, hearers, itself, wider}
use Rattle.sift_flight.proofs.Timing.{clk, next_is, reads, reads_well, too_far_is}
use Rattle.sift_flight.proofs.Working.{InFrame, Member, by_config}

module _ (m : FlownMission) (strays : Strays) (fl : Flight) (f : ℕ) (us : List ℕ) (here : InFrame m strays fl f us) (u : ℕ) (fu : FaultyMember m fl f us u)
    (together : AreTogether m.skew us (hearers m strays fl f us here u fu) (clk m strays fl f us here)) where
  abbrev with_it : ℕ → Bool
  with_it = hearers m strays fl f us here u fu

  abbrev offset : ℕ → ℤ
  offset = clk m strays fl f us here

  abbrev readings : ℕ → ℕ → Option ℤ
  readings = reads m strays fl f us here

  error_of : (p q : ℕ) → has us p ≡ true → has us q ≡ true → IsWithin m.error (m.errors p q) (pos 0)
  error_of p q hp hq = here.flyable.clocks.errors p q (here.config.inside p hp) (here.config.inside q hq)

  -- it reads members well
  reads_well_in : ReadsWell m.error us (λ v. m.works v f) offset u (readings u)
  reads_well_in v hv wv ne = heard_clocks_are_read_well m.skew m.error us with_it offset u (fl.heard u f Clock) (m.errors u)
      here.flyable.clocks.admitted.told together fu.member (itself m strays fl f us here u fu)
      (λ w hw reads_w other.
      let w' = hearer_is m strays fl f us here u fu w hw reads_w other in
      (from_member m strays fl f us here u fu w Clock w' (clock_from m strays fl f us here u fu w w'), error_of u w fu.member hw))
      v hv (wider m strays fl f us here u fu v wv) ne

  -- as members do
  readers : AreReaders m.skew m.error us with_it (λ v. m.works v f) offset readings
  readers = record {
    wider = wider m strays fl f us here u fu;
    together = together;
    readings = λ v hv reads_v. elim (eqb_tells v u) [
      | inl e ↦ subst (λ w. ReadsWell m.error us (λ v. m.works v f) offset w (readings w)) (sym e.1) reads_well_in
      | inr e ↦ reads_well m strays fl f us here v (hearer_is m strays fl f us here u fu v hv reads_v e.1)
    ];
  }

  next_in : (v : ℕ) → has us v ≡ true → with_it v ≡ true → (fl.account v f).next_clk ≡ next_offsets (m.skew +ℤ m.error) us offset m.drift readings v
  next_in v hv reads_v = elim (eqb_tells v u) [
    | inl e ↦ subst (λ w. (fl.account w f).next_clk ≡ next_offsets (m.skew +ℤ m.error) us offset m.drift readings w) (sym e.1) (conduct_in m strays fl f us here u fu).next_clk
    | inr e ↦ next_is m strays fl f us here v (hearer_is m strays fl f us here u fu v hv reads_v e.1)
  ]

  -- so it is together with them in the next frame
  pub next_together_in : AreTogether m.skew us with_it (λ v. (fl.account v f).next_clk)
  next_together_in p q hp reads_p hq reads_q =
      let some : pos 0 ≤ℤ m.error = (let e = error_of u u fu.member fu.member in omega (arith, ints, e)) in
      let t = readers_are_kept_with_margin m.skew m.error m.rate us with_it (λ v. m.works v f) offset m.drift readings some readers
      (λ v hv reads_v. here.flyable.clocks.drifts v (here.config.inside v hv)) here.margin here.flyable.clocks.admitted.kept p q hp reads_p hq reads_q in
      rw (next_in p hp reads_p, next_in q hq reads_q) t

  -- and where it shows its own clock to a member, the member doesn't catch it
  pub none_timed_in : (q : ℕ) → Member m f us q → m.override u f Clock q ≡ None → clock_catches (by_config m strays fl f us here us q) u ≡ false
  none_timed_in q wq own = elim (cases_Bool (clock_catches (by_config m strays fl f us here us q) u)) [
    | inr e ↦ e
    | inl t ↦
        let far = (and_parts (not (nat_eq u q)) _ (and_parts (has us u) _ t).1).1 in
        let heard : fl.heard q f Clock u ≡ Some (word_of (offset u)) = by_member m strays fl f us here u fu q Clock wq (clock_to m strays fl f us here u fu q wq) own in
        let ahead = together u q fu.member (itself m strays fl f us here u fu) wq.member (wider m strays fl f us here u fu q wq.works) in
        let behind = together q u wq.member (wider m strays fl f us here u fu q wq.works) fu.member (itself m strays fl f us here u fu) in
        let error = error_of q u wq.member fu.member in
        let told = here.flyable.clocks.admitted.told in
        let read = words_are_read_right (offset u) (offset q) (m.errors q u)
        (omega (arith, ints, ahead, behind, told), omega (arith, ints, ahead, behind, told)) in
        let reading = ap (λ h. reading_of h (offset q) (m.errors q u)) heard ∙ read in
        absurd (too_far_is (m.skew +ℤ m.error) ((offset u -ℤ offset q) +ℤ m.errors q u)
        (omega (arith, ints, ahead, behind, error), omega (arith, ints, ahead, behind, error))
        (subst (λ r. is_too_far (m.skew +ℤ m.error) r ≡ true) reading far))
  ]
