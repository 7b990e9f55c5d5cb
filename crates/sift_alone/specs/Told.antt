-- What is told of the flights that fleets are ordered to fly.
use Rattle.std.specs.Prelude.{ℕ, List}
use Rattle.sift_commands.specs.Order.{Tells}
use Rattle.sift_commands.specs.declared.order.Order.{Order}
use Rattle.sift_rogue.specs.Storms.{Call}
use Rattle.sift_alone.specs.Flown.{flying_with}
use Rattle.sift_alone.specs.declared.fleet.Fleet.{Fleet}

-- the text tells what a fleet of such rogues was ordered to fly
abbrev pub TellsOfFleet : {R : Type 0} → (allows : R → Call → R → Type 0) → Order (Fleet R) → (text : List ℕ) → Type 0
TellsOfFleet allows = Tells (λ fleet. flying_with allows fleet.rogues.items)
