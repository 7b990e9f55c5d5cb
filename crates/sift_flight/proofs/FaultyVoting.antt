-- A faulty unit that hasn't turned votes the words that members vote: its own isn't among the working executors'.
use Rattle.std.proofs.Common.{◌≡◌, inl, inr, ℕ, ◌<◌, List, map, slice_index, true, false, not, Option, Some, sym, ap, ◌∙◌, arith}
use Rattle.std.proofs.lemmas.Bool.{cases_Bool, ne_eqb}
use Rattle.std.proofs.lemmas.List.{length-map}
use Rattle.std.proofs.lemmas.Grind.{same_number_lists}
use Rattle.sift_base.specs.Units.{has}
use Rattle.sift_base.specs.declared.slots.Slot.TheVariants.{Out}
use Rattle.sift_base.specs.laws.Counts.{of_filtered}
use Rattle.sift_agree.specs.laws.Taking.{votes-working}
use Rattle.sift_agree.specs.laws.Winners.{won-agreed}
use Rattle.sift_mission.specs.Data.{FlownMission}
use Rattle.sift_mission.specs.Slots.{executors, is_held}
use Rattle.sift_vote.specs.Majority.{IsMajority}
use Rattle.sift_conduct.specs.Conduct.{polled}
use Rattle.sift_conduct.specs.Frames.{last_of}
use Rattle.sift_flight.specs.Flight.{Flight, Strays}
use Rattle.sift_flight.proofs.FaultyMember.{FaultyMember, apart, conduct_in, from_member, out_from}
use Rattle.sift_flight.proofs.Ideal.{IsStep}
use Rattle.sift_flight.proofs.Voting.{count-filter-≤, made_is}
use Rattle.sift_flight.proofs.Working.{InFrame, Member, by_config}

module _ (m : FlownMission) (strays : Strays) (fl : Flight) (f : ℕ) (us : List ℕ) (here : InFrame m strays fl f us) (u : ℕ) (fu : FaultyMember m fl f us u)
    (ins before outs : List ℕ) (step : IsStep m us ins before outs)
    (same_ins : (v : ℕ) → Member m f us v → (fl.account v f).ins ≡ ins)
    (same_last : (v : ℕ) → Member m f us v → last_of m (fl.account v) f ≡ before)
    (own_last : last_of m (fl.account u) f ≡ before) where
  abbrev place : ℕ → ℕ → Option ℕ
  place w = polled (by_config m strays fl f us here us u) w

  -- each working executor's place has the ideal word
  place_in : (w : ℕ) → w < m.words → (v : ℕ) → has (executors m us w) v ≡ true → m.works v f ≡ true → place w v ≡ Some (slice_index outs w)
  place_in w low v hv wv =
      let t = of_filtered (m.executes us w) us v hv in
      let v' : Member m f us v = record { member = t.1; works = wv } in
      rw (ne_eqb v u (apart m strays fl f us here u fu v wv))
      (from_member m strays fl f us here u fu v (Out w) v' (out_from m strays fl f us here u fu w v low t.0 v')
      ∙ ap (λ x. Some x) (made_is m strays fl f us here ins before outs step same_ins same_last w low v t.0 v v'))

  -- so it is the majority
  vote_in : (w : ℕ) → w < m.words → is_held m us w ≡ false → IsMajority (map (place w) (executors m us w)) (slice_index outs w)
  vote_in w low kept =
      let votes = votes-working (λ v. m.works v f) (executors m us w) (place w) (slice_index outs w) (place_in w low) in
      omega (
        arith,
        votes,
        length-map (executors m us w) (place w),
        here.flyable.fits.executors.three us w here.config low kept,
        count-filter-≤ (λ v. not (m.works v f)) (m.executes us w) us,
        here.margin.few,
      )

  word_in : (w : ℕ) → w < m.words → slice_index (fl.account u f).outs w ≡ slice_index outs w
  word_in w low =
      let votes = (conduct_in m strays fl f us here u fu).outputs w low in
      elim (cases_Bool (is_held m us w)) [
        | inl held ↦ rw held at votes ∙ (ap (λ ws. slice_index ws w) own_last ∙ sym (rw held at (step.makes w low)))
        | inr kept ↦ rw kept at votes ∙ sym (won-agreed _ (slice_index outs w) (vote_in w low kept))
      ]

  -- it votes the ideal words, whatever its inputs
  pub outputs_in : (fl.account u f).outs ≡ outs
  outputs_in =
      let c = (conduct_in m strays fl f us here u fu).outputs_count in
      same_number_lists (fl.account u f).outs outs (c ∙ sym step.count) (λ w low. word_in w (omega (arith, c)))
