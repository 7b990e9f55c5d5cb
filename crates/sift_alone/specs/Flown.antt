-- What rogues fly: over which strays, and which flights by which workers.
use Rattle.std.specs.Prelude.{ℕ, ◌≡◌, List, ⊤}
use Rattle.sift_core.specs.Landing.{IsFlownInOrder}
use Rattle.sift_flight.specs.Flight.{Flight}
use Rattle.sift_flight.specs.Told.{told}
use Rattle.sift_flight.specs.declared.flight.Flight.{Flight as Landed}
use Rattle.sift_jobs.specs.Flights.{Flying}
use Rattle.sift_jobs.specs.declared.order.Workers.{Workers}
use Rattle.sift_jobs.specs.declared.order.Workers.TheVariants.{One, Several, OneEach}
use Rattle.sift_mission.specs.Data.{MissionData}
use Rattle.sift_mission.specs.Flown.{flown}
use Rattle.sift_rogue.specs.Storms.{Call}
use Rattle.sift_alone.specs.Given.{AreGiven}

module _ {R : Type 0} (allows : R → Call → R → Type 0) (rogues : List R) where
  -- the flight is the one that an order draws, by one worker and these rogues
  pub record IsInOrder (order : ℕ) (mission : MissionData) (flight : Flight) : Type 0 where
    pub landed : Landed
    pub after : List R
    pub ordered : IsFlownInOrder allows mission order rogues landed after
    pub is : flight ≡ told (flown mission) landed

  -- these workers may fly it: one, where it is in his order; by which several it was flown no flight shows
  abbrev pub MayFly : Workers → MissionData → Flight → Type 0
  MayFly (One order) mission flight = IsInOrder order mission flight
  MayFly (Several count) mission flight = ⊤
  MayFly OneEach mission flight = ⊤

  -- what these rogues fly
  abbrev pub flying_with : Flying
  flying_with = record { gives = AreGiven allows rogues; flies = MayFly }
