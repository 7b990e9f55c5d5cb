-- Two round flights in which the same is heard of strays are the same; so are all of a mission without storms.
use Rattle.std.proofs.Common.{◌≡◌, ⊎_elim, ℕ, zero, suc, ◌<◌, None, true, false, refl, sym, ap, ◌∙◌, subst, arith}
use Rattle.std.proofs.lemmas.Bool.{cases_Bool}
use Rattle.sift_base.specs.Units.{has}
use Rattle.sift_exec.specs.laws.NextConfigs.{next_inside}
use Rattle.sift_mission.specs.Data.{FlownMission}
use Rattle.sift_mission.specs.Slots.{has_turned}
use Rattle.sift_mission.specs.Fits.{Fits}
use Rattle.sift_mission.specs.laws.Calls.{call_of}
use Rattle.sift_conduct.specs.Conduct.{Account}
use Rattle.sift_conduct.specs.Frames.{FrameConduct, Flies}
use Rattle.sift_flight.specs.Flight.{Flight, unit_of, config_of, Strays, IsRound, HasNoStorms, AtMostOneIsRound}
use Rattle.sift_flight.specs.Existence.{StrayHearing, HearsStrays, AtMostOneHearsThem}
use Rattle.sift_flight.proofs.Reaching.{still_before}
use Rattle.sift_flight.proofs.Same.{AreBothRound}
use Rattle.sift_flight.proofs.SameWords.{all_outs}
use Rattle.sift_flight.proofs.SameFrame.{next_cfg_same, next_clk_same, same_here}

-- who flies in a frame flew in the frame before
flew : (m : FlownMission) (u f : ℕ) → Flies m u (suc f) → Flies m u f
flew m u f w = record { unit = w.unit; whole = still_before (m.storm u) f (suc f) (omega arith) w.whole }

-- a mission without storms has no unit that has turned
whole_unit : (m : FlownMission) → HasNoStorms m → (u f : ℕ) → has m.units u ≡ true → has_turned m u f ≡ false
whole_unit m calm u f hu = rw (calm u hu) refl

-- so each of its units flies in each frame
pub flies_always : (m : FlownMission) → HasNoStorms m → (u f : ℕ) → has m.units u ≡ true → Flies m u f
flies_always m calm u f hu = record { unit = hu; whole = whole_unit m calm u f hu }

module _ (m : FlownMission) (strays : Strays) (fl : Flight) (R : IsRound m strays fl) where
  conduct_of : (f : ℕ) → f < m.frames → (u : ℕ) → Flies m u f → FrameConduct m u (unit_of fl u) f
  conduct_of f low u w = (R f low).conduct u w

  -- a unit's next configuration has units of this one alone
  stays : (f : ℕ) → f < m.frames → (u p : ℕ) → Flies m u f → has (fl.account u f).next_cfg p ≡ true → has (config_of fl u f) p ≡ true
  stays f low u p w hp =
      let c = conduct_of f low u w in
      ⊎_elim
      (λ t. next_inside _ _ p (subst (λ us. has us p ≡ true) (c.busy t).next_cfg hp))
      (λ t. subst (λ us. has us p ≡ true) (ap (λ (z : Account). z.next_cfg) (c.idle t)) hp)
      (cases_Bool (has (config_of fl u f) u))

  -- so each configuration has units of the mission alone
  pub inside : (f : ℕ) → f < m.frames → (u p : ℕ) → Flies m u f → has (config_of fl u f) p ≡ true → has m.units p ≡ true
  inside zero low u p w hp = subst (λ us. has us p ≡ true) (conduct_of 0 low u w).begins.0 hp
  inside (suc f) low u p w hp =
      let before : f < m.frames = omega arith in
      inside f before u p (flew m u f w) (stays f before u p (flew m u f w) (subst (λ us. has us p ≡ true) (conduct_of (suc f) low u w).begins.0 hp))

  -- in a mission without storms nothing is heard of strays
  pub hears_none : (stray : StrayHearing) → HasNoStorms m → HearsStrays m stray fl
  hears_none stray calm f low q k p w turned t =
      let whole = whole_unit m calm p f (inside f low q p w (call_of m (config_of fl q f) k p q t).from) in absurd (cc (turned, whole))

module _ (m : FlownMission) (strays strays' : Strays) (stray : StrayHearing) (fl gl : Flight) (fits : Fits m) (R : IsRound m strays fl) (S : IsRound m strays' gl)
    (H : HearsStrays m stray fl) (G : HearsStrays m stray gl) where
  -- each frame begins alike in both
  pub both_round : (f : ℕ) → f < m.frames → AreBothRound m strays strays' stray fl gl f
  both_round zero low = record {
    fits = fits;
    one = R 0 low;
    other = S 0 low;
    strays_one = H 0 low;
    strays_other = G 0 low;
    cfg = λ u w. (conduct_of m strays fl R 0 low u w).begins.0 ∙ sym (conduct_of m strays' gl S 0 low u w).begins.0;
    clk = λ u w. (conduct_of m strays fl R 0 low u w).begins.1 ∙ sym (conduct_of m strays' gl S 0 low u w).begins.1;
    last = λ u w. refl;
    inside = inside m strays' gl S 0 low;
  }
  both_round (suc f) low =
      let b = both_round f (omega arith) in
      record {
        fits = fits;
        one = R (suc f) low;
        other = S (suc f) low;
        strays_one = H (suc f) low;
        strays_other = G (suc f) low;
        cfg = λ u w.
            (conduct_of m strays fl R (suc f) low u w).begins.0
            ∙ (next_cfg_same m strays strays' stray fl gl f b u (flew m u f w) ∙ sym (conduct_of m strays' gl S (suc f) low u w).begins.0);
        clk = λ u w.
            (conduct_of m strays fl R (suc f) low u w).begins.1
            ∙ (next_clk_same m strays strays' stray fl gl f b u (flew m u f w) ∙ sym (conduct_of m strays' gl S (suc f) low u w).begins.1);
        last = λ u w. all_outs m strays strays' stray fl gl f b u (flew m u f w);
        inside = inside m strays' gl S (suc f) low;
      }

-- so all frames are the same
pub at_most_one_flight_hears_them : AtMostOneHearsThem
at_most_one_flight_hears_them m strays strays' stray fl gl fits R S H G u f w low =
    same_here m strays strays' stray fl gl f (both_round m strays strays' stray fl gl fits R S H G f low) u w

-- nothing is heard of units that have turned
abbrev pub nothing : StrayHearing
nothing q f k p s = None

-- and those of a mission without storms, where nothing is
pub at_most_one_flight_is_round : AtMostOneIsRound
at_most_one_flight_is_round m strays strays' fl gl fits calm R S u f hu low =
    at_most_one_flight_hears_them m strays strays' nothing fl gl fits R S (hears_none m strays fl R nothing calm) (hears_none m strays' gl S nothing calm)
    u f (flies_always m calm u f hu) low
