-- The flight that is made is round.
use Rattle.std.proofs.Common.{◌≡◌, inl, inr, ℕ, zero, suc, List, true, false, unwrap_or, refl, ap, ◌∙◌, subst, nat_eq, if◌then◌else◌, None}
use Rattle.std.proofs.lemmas.Bool.{cases_Bool}
use Rattle.sift_base.specs.declared.slots.Slot.{Slot}
use Rattle.sift_mission.specs.Data.{FlownMission}
use Rattle.sift_mission.specs.Slots.{calls, stamp_of, has_turned}
use Rattle.sift_mission.specs.Fits.{Fits}
use Rattle.sift_conduct.specs.Conduct.{UnitFrame, unit_frame, said_of, Conduct}
use Rattle.sift_conduct.specs.Frames.{BeginConduct, FrameConduct, Flies, last_of}
use Rattle.sift_flight.specs.Flight.{Flight, unit_of, config_of, Strays, Hears, IsRound}
use Rattle.sift_flight.specs.Flight.IsOfStray.{absent}
use Rattle.sift_flight.specs.Existence.{StrayHearing, IsOfStrays, HearsStrays, EachMissionHasARoundFlight, EachStrayHearingHasARoundFlight}
use Rattle.sift_flight.proofs.Making.{Start, own_by, out_word, report_word, said_by, start_of, made_flight}
use Rattle.sift_flight.proofs.Unique.{nothing}
use Rattle.sift_flight.proofs.MadeFrame.{own_is, busy_here, idle_here}

module _ (m : FlownMission) (strays : Strays) (stray : StrayHearing) (fits : Fits m) (allowed : IsOfStrays m strays stray) where
  abbrev fl : Flight
  fl = made_flight m stray

  abbrev start : ℕ → ℕ → Start
  start f = start_of m stray f

  -- each frame begins as it ought to
  begins : (u f : ℕ) → BeginConduct m u (fl.account u) f
  begins u zero = (refl, refl)
  begins u (suc f) = (refl, refl)

  last_is : (u f : ℕ) → (start f u).last ≡ last_of m (fl.account u) f
  last_is u zero = refl
  last_is u (suc f) = refl

  -- what a unit hears of one that has not turned is what that one says of its own word, where both say the slot in one subframe
  heard_said : (f : ℕ) (k : Slot) (p q : ℕ) → Flies m q f → calls m (config_of fl q f) k p q ≡ true → has_turned m p f ≡ false →
      fl.heard q f k p ≡ (if nat_eq (m.due (config_of fl p f) k) (m.due (config_of fl q f) k)
      then said_by m stray f (start f) (own_by m stray f (start f) (out_word m stray f (start f)) (report_word m stray f (start f)) k) k p q else None)
  heard_said f k p q w t whole = rw (w.whole, t, whole) refl

  -- and that is what was said
  as_said : (f : ℕ) (k : Slot) (p q : ℕ) → has_turned m p f ≡ false →
      said_by m stray f (start f) (own_by m stray f (start f) (out_word m stray f (start f)) (report_word m stray f (start f)) k) k p q ≡ fl.said p f k q
  as_said f k p q whole = elim (cases_Bool (calls m (start f p).cfg k p q)) [
    | inl t ↦ rw (whole, t) (ap (λ w. unwrap_or (m.override p f k q) w) (own_is m stray f (start f) fits k p q t))
    | inr t ↦ rw (whole, t) refl
  ]

  -- so units hear by the hearing equations
  hearing : (f q : ℕ) (k : Slot) (p : ℕ) → Flies m q f → Hears m strays fl f q k p
  hearing f q k p w = record {
    heard = λ t whole. heard_said f k p q w t whole
        ∙ (λ i. if nat_eq (m.due (config_of fl p f) k) (m.due (config_of fl q f) k) then as_said f k p q whole i else None);
    strayed = λ t turned. rw (w.whole, t, turned) (allowed q f k p (stamp_of m (config_of fl q f) f k));
    silent = λ t. rw (w.whole, t) refl;
  }

  -- a unit in a frame, with these words voted in the frame before
  abbrev frame_with : ℕ → ℕ → List ℕ → UnitFrame
  frame_with f u last = unit_frame m (config_of fl u f) u f (fl.account u f) (fl.heard u f) last

  conduct : (f u : ℕ) → Flies m u f → FrameConduct m u (unit_of fl u) f
  conduct f u w = record {
    begins = begins u f;
    said = λ k q. rw w.whole (ap (λ last. said_of (frame_with f u last) k q) (last_is u f));
    busy = λ t. subst (λ last. Conduct (frame_with f u last)) (last_is u f) (busy_here m stray f (start f) fits u t);
    idle = λ t. idle_here m stray f (start f) fits u t;
  }

  made_round : IsRound m strays fl
  made_round f low = record {
    hearing = hearing f;
    conduct = conduct f;
    says_nothing = λ u k q hu turned. rw turned refl;
    hears_nothing = λ u k p hu turned. rw turned refl;
  }

  made_hears : HearsStrays m stray fl
  made_hears f low q k p w turned t = rw (w.whole, t, turned) refl

-- whatever may be heard of the strays, a mission that fits has a round flight over them in which just this is heard
pub each_stray_hearing_has_a_round_flight : EachStrayHearingHasARoundFlight
each_stray_hearing_has_a_round_flight m strays stray fits allowed =
    (made_flight m stray, made_round m strays stray fits allowed, made_hears m strays stray fits allowed)

-- a mission that fits has a round flight over any strays
pub each_mission_has_a_round_flight : EachMissionHasARoundFlight
each_mission_has_a_round_flight m strays fits = (made_flight m nothing, made_round m strays nothing fits (λ q f k p s. absent refl))
