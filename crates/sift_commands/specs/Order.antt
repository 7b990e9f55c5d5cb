-- What is told of the flights that commands leave to be flown.
use Rattle.std.specs.Prelude.{ℕ, List}
use Rattle.sift_bus_jobs.specs.Buses.{TellsBuses}
use Rattle.sift_jobs.specs.Flights.{Flying, TellsFlight}
use Rattle.sift_mission.specs.Parts.{data_of}
use Rattle.sift_commands.specs.declared.order.Order.{Order}
use Rattle.sift_commands.specs.declared.order.Order.TheVariants.{ByWorkers, OverBuses}

module _ {F : Type 0} (flying : F → Flying) where
  -- the text tells what was ordered: of a flight by these workers, or of one over buses
  abbrev pub Tells : Order F → (text : List ℕ) → Type 0
  Tells (ByWorkers order) text = TellsFlight (flying order.flier) order.workers (data_of order.mission) order.telling text
  Tells (OverBuses order) text = TellsBuses order.job (data_of order.mission) text
