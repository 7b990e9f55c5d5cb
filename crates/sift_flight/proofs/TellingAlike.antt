-- Two round flights of a mission tell the same of each frame.
use Rattle.std.proofs.Common.{◌≡◌, ℕ, zero, suc, ◌-◌, ◌<◌, ◌≤◌, map, ℤ, true, false, ◌&&◌, nat_lt, refl, sym, ap, ◌∙◌, subst, arith, inl, inr}
use Rattle.std.specs.List.{filter}
use Rattle.std.proofs.lemmas.Bool.{cases_Bool}
use Rattle.std.proofs.lemmas.Bool.Decides.{nat_tests}
use Rattle.sift_base.specs.Units.{has}
use Rattle.sift_base.specs.laws.Counts.{of_filtered, map-same}
use Rattle.sift_mission.specs.Data.{FlownMission}
use Rattle.sift_mission.specs.Premises.{IsFlyable}
use Rattle.sift_conduct.specs.Conduct.{Account}
use Rattle.sift_flight.specs.Alike.{AreSameFrame, RoundFlightsAreAlike}
use Rattle.sift_flight.specs.Flight.{Flight, Strays, AreSameAt, HasNoStorms, IsRound}
use Rattle.sift_flight.specs.Figures.{config_at, lead_of, working_at, offsets_at, next_offsets_at, is_sound_at, margin_before, skew_of, slack_of}
use Rattle.sift_flight.specs.laws.Leading.{lead_works, config_within}
use Rattle.sift_flight.proofs.Unique.{at_most_one_flight_is_round, flies_always, inside as units_inside}

module _ (m : FlownMission) (s s' : Strays) (fl gl : Flight) (flyable : IsFlyable m) (calm : HasNoStorms m) (some : 0 < m.frames)
    (R : IsRound m s fl) (S : IsRound m s' gl) where
  -- each unit tells the same in each frame
  same_unit : (u f : ℕ) → has m.units u ≡ true → f < m.frames → AreSameAt fl gl u f
  same_unit u f hu low = at_most_one_flight_is_round m s s' fl gl flyable.fits calm R S u f hu low

  -- the lead unit is one of the mission
  lead_in : (f : ℕ) → has m.units (lead_of m f) ≡ true
  lead_in f = (lead_works m flyable f).unit

  -- the configuration in a frame is the same
  same_config : (f : ℕ) → f < m.frames → config_at m fl f ≡ config_at m gl f
  same_config f low =
      config_within m fl f low ∙ (ap (λ a. a.cfg) (same_unit (lead_of m f) f (lead_in f) low).account ∙ sym (config_within m gl f low))

  -- and its units are the mission's
  inside : (f : ℕ) → f < m.frames → (p : ℕ) → has (config_at m gl f) p ≡ true → has m.units p ≡ true
  inside f low p h =
      units_inside m s' gl S f low (lead_of m f) p (flies_always m calm (lead_of m f) f (lead_in f)) (subst (λ us. has us p ≡ true) (config_within m gl f low) h)

  -- the configuration after the last frame is the same
  same_end : (f : ℕ) → nat_lt f m.frames ≡ false → f ≤ m.frames → config_at m fl f ≡ config_at m gl f
  same_end f past low =
      let before : f - 1 < m.frames = omega arith in
      rw past (ap (λ a. a.next_cfg) (same_unit (lead_of m (f - 1)) (f - 1) (lead_in (f - 1)) before).account)

  same_configs : (f : ℕ) → f ≤ m.frames → config_at m fl f ≡ config_at m gl f
  same_configs f low = elim (cases_Bool (nat_lt f m.frames)) [
    | inl t ↦ same_config f (grind (arith, nat_tests, t))
    | inr t ↦ same_end f t low
  ]

  -- its working units, and a number of each
  same_working : (f : ℕ) → f < m.frames → working_at m fl f ≡ working_at m gl f
  same_working f low = ap (filter (λ u. m.works u f)) (same_config f low)

  same_offsets : (f : ℕ) → f < m.frames → (number : Account → ℤ) →
      map (λ u. number (fl.account u f)) (working_at m fl f) ≡ map (λ u. number (gl.account u f)) (working_at m gl f)
  same_offsets f low number =
      ap (map (λ u. number (fl.account u f))) (same_working f low)
      ∙ map-same (λ u. number (fl.account u f)) (λ u. number (gl.account u f)) (working_at m gl f)
      (λ u h. ap number (same_unit u f (inside f low u (of_filtered (λ v. m.works v f) (config_at m gl f) u h).1) low).account)

  -- the margin
  same_sound : (f : ℕ) → f < m.frames → is_sound_at m fl f ≡ is_sound_at m gl f
  same_sound f low = rw (same_config f low) refl

  same_margin : (f : ℕ) → f ≤ m.frames → margin_before m fl f ≡ margin_before m gl f
  same_margin zero low = refl
  same_margin (suc f) low =
      ap (λ b. b && is_sound_at m fl f) (same_margin f (omega arith)) ∙ ap (λ b. margin_before m gl f && b) (same_sound f (omega arith))

  same_frame : (f : ℕ) → f < m.frames → AreSameFrame m fl gl f
  same_frame f low =
      let now = same_offsets f low (λ a. a.clk) in
      let next = same_offsets f low (λ a. a.next_clk) in
      record {
        margin = same_margin (suc f) (omega arith);
        skew = ap skew_of now;
        slack = ap (λ xs. slack_of m.length xs (next_offsets_at m fl f)) now ∙ ap (slack_of m.length (offsets_at m gl f)) next;
      }

-- so the two flights tell the same
pub round_flights_are_alike : RoundFlightsAreAlike
round_flights_are_alike m s s' fl gl flyable calm some R S = record {
  units = same_unit m s s' fl gl flyable calm some R S;
  frames = same_frame m s s' fl gl flyable calm some R S;
  config = same_configs m s s' fl gl flyable calm some R S;
}
