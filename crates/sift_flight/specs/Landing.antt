-- From a core that hears lawfully, and what its boards have kept, to a round flight.
use Rattle.std.specs.Prelude.{◌≡◌, ◌≢◌, ℕ, ◌<◌, ◌≤◌, true, Option, Some}
use Rattle.sift_base.specs.Units.{has}
use Rattle.sift_base.specs.declared.slots.Slot.{Slot}
use Rattle.sift_buffer.specs.Ranges.{Ranges}
use Rattle.sift_buffer.specs.Core.{Core}
use Rattle.sift_buffer.specs.Conduct.{hearing}
use Rattle.sift_buffer.specs.Lawful.{Lawful, HearsSayings, IsFromStrays}
use Rattle.sift_mission.specs.Data.{FlownMission}
use Rattle.sift_conduct.specs.Conduct.{Account}
use Rattle.sift_conduct.specs.Frames.{Flies}
use Rattle.sift_conduct.specs.Acts.{BoardKeeps}
use Rattle.sift_mission.specs.Fits.{Fits}
use Rattle.sift_flight.specs.Flight.{flight_of, Strays, Hears, RoundAt}

-- the core has a place for each unit and slot of the mission
pub record HasPlacesFor (m : FlownMission) (r : Ranges) : Type 0 where
  pub units : (u : ℕ) → has m.units u ≡ true → u < r.units
  pub slots : m.slots ≤ r.slots

-- what units heard of a unit that had not left is from its sayings, and of one that had left from its sayings or its strays
pub record HearsLawfully (r : Ranges) (c : Core) : Type 0 where
  pub sayings : HearsSayings r c
  pub strays : (q p f k s h : ℕ) (w : Option ℕ) → q < r.units → p < r.units → p ≢ q → k < r.slots →
      (c.of q).heard f k p ≡ Some (hearing s h w) → (c.of p).left ≤ h → IsFromStrays (c.of p) q k s w

-- a lawful core hears lawfully
abbrev pub LawfulCoresHearLawfully : Type 0
LawfulCoresHearLawfully = (r : Ranges) (c : Core) → Lawful r c → HearsLawfully r c

-- units have heard lawfully, and each unit's board has kept all of its conduct in n frames, as far as the unit had not turned
pub record HaveLanded (m : FlownMission) (r : Ranges) (c : Core) (accounts : ℕ → ℕ → Account) (n : ℕ) : Type 0 where
  pub places : HasPlacesFor m r
  pub heard : HearsLawfully r c
  pub boards : (u : ℕ) → has m.units u ≡ true → BoardKeeps m u (c.of u) (accounts u) n
  pub within : n ≤ m.frames

-- the strays of a core, by unit
abbrev pub strays_in : Core → Strays
strays_in c p = (c.of p).strays

-- what units hear lawfully while their boards keep n frames, they hear by the hearing equations, in each of these frames
abbrev pub UnitsHearByTheEquations : Type 0
UnitsHearByTheEquations = (m : FlownMission) (r : Ranges) (c : Core) (accounts : ℕ → ℕ → Account) (n f : ℕ) → Fits m →
    HaveLanded m r c accounts n → f < n → (q : ℕ) (k : Slot) (p : ℕ) → Flies m q f →
    Hears m (strays_in c) (flight_of m c accounts) f q k p

-- these frames are those of a round flight
abbrev pub LandedFramesAreRound : Type 0
LandedFramesAreRound = (m : FlownMission) (r : Ranges) (c : Core) (accounts : ℕ → ℕ → Account) (n f : ℕ) → Fits m →
    HaveLanded m r c accounts n → f < n → RoundAt m (strays_in c) (flight_of m c accounts) f
