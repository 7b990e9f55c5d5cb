-- That there are round flights: each mission that fits has one.
use Rattle.std.specs.Prelude.{◌≡◌, ℕ, ◌<◌, true, Option}
use Rattle.sift_base.specs.declared.slots.Slot.{Slot}
use Rattle.sift_mission.specs.Data.{FlownMission}
use Rattle.sift_mission.specs.Slots.{calls, stamp_of, has_turned}
use Rattle.sift_mission.specs.Fits.{Fits}
use Rattle.sift_conduct.specs.Frames.{Flies}
use Rattle.sift_flight.specs.Flight.{Flight, config_of, Strays, IsOfStray, IsRound, AreSameAt}

-- what is heard of units that have turned: by the hearer, the frame, the slot, the unit that has turned, and the stamp that is waited for
abbrev pub StrayHearing : Type 0
StrayHearing = ℕ → ℕ → Slot → ℕ → ℕ → Option ℕ

-- each time it is absence, or is taken of one of the unit's strays
abbrev pub IsOfStrays : FlownMission → Strays → StrayHearing → Type 0
IsOfStrays m strays stray = (q f : ℕ) (k : Slot) (p s : ℕ) → IsOfStray (strays p) q (m.number k) s (stray q f k p s)

-- in a frame of the flight just this is heard of them
abbrev pub HearsStraysAt : FlownMission → StrayHearing → Flight → ℕ → Type 0
HearsStraysAt m stray fl f = (q : ℕ) (k : Slot) (p : ℕ) → Flies m q f → has_turned m p f ≡ true → calls m (config_of fl q f) k p q ≡ true →
    fl.heard q f k p ≡ stray q f k p (stamp_of m (config_of fl q f) f k)

-- and in each frame of the mission
abbrev pub HearsStrays : FlownMission → StrayHearing → Flight → Type 0
HearsStrays m stray fl = (f : ℕ) → f < m.frames → HearsStraysAt m stray fl f

-- each mission that fits has a round flight over any strays
abbrev pub EachMissionHasARoundFlight : Type 0
EachMissionHasARoundFlight = (m : FlownMission) (strays : Strays) → Fits m → (fl : Flight) × IsRound m strays fl

-- and whatever may be heard of the strays is heard in one
abbrev pub EachStrayHearingHasARoundFlight : Type 0
EachStrayHearingHasARoundFlight = (m : FlownMission) (strays : Strays) (stray : StrayHearing) → Fits m → IsOfStrays m strays stray →
    (fl : Flight) × IsRound m strays fl × HearsStrays m stray fl

-- but in one alone: two round flights in which the same is heard of strays are the same at each unit that has not turned
abbrev pub AtMostOneHearsThem : Type 0
AtMostOneHearsThem = (m : FlownMission) (strays strays' : Strays) (stray : StrayHearing) (fl gl : Flight) → Fits m →
    IsRound m strays fl → IsRound m strays' gl → HearsStrays m stray fl → HearsStrays m stray gl →
    (u f : ℕ) → Flies m u f → f < m.frames → AreSameAt fl gl u f
