-- Whom one worker stands in for.
use Rattle.std.proofs.Common.{ℕ, List}
use Rattle.sift_jobs.specs.Flights.{TellsFlight}
use Rattle.sift_jobs.specs.declared.order.Telling.{Telling}
use Rattle.sift_jobs.specs.declared.order.Workers.{Workers}
use Rattle.sift_jobs.specs.declared.order.Workers.TheVariants.{One, Several, OneEach}
use Rattle.sift_mission.specs.Data.{MissionData}
use Rattle.sift_rogue.specs.Storms.{Call}
use Rattle.sift_alone.specs.Flown.{flying_with}
use Rattle.sift_alone.specs.Order.{order_by}

module _ {R : Type 0} (allows : R → Call → R → Type 0) (rogues : List R) where
  -- what is told of a flight by one worker in the order of those who are asked for is told of one by these
  pub asked_for : (workers : Workers) (mission : MissionData) (telling : Telling) (text : List ℕ)
      → TellsFlight (flying_with allows rogues) (One (order_by workers)) mission telling text
      → TellsFlight (flying_with allows rogues) workers mission telling text
  asked_for (One order) mission telling text tells = tells
  asked_for (Several count) mission telling text (flight, flies, told) = (flight, record { over = flies.over; by = tt }, told)
  asked_for OneEach mission telling text (flight, flies, told) = (flight, record { over = flies.over; by = tt }, told)
