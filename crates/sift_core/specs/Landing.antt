-- The flight that an order number draws: turn by turn from a new machine, and what its units then have.
use Rattle.std.specs.Prelude.{◌≡◌, ℕ, List, map}
use Rattle.sift_conduct.specs.Conduct.{account_of}
use Rattle.sift_mission.specs.Data.{MissionData}
use Rattle.sift_mission.specs.Flown.{flown}
use Rattle.sift_rogue.specs.Storms.{Call}
use Rattle.sift_unit.specs.Boards.{desk_of}
use Rattle.sift_flight.specs.declared.flight.Flight.{Flight}
use Rattle.sift_core.specs.Courses.{AreAllLeft, course}
use Rattle.sift_core.specs.Machines.{IsNewMachine, boards_of}
use Rattle.sift_core.specs.Turns.{FliesInOrder}
use Rattle.sift_core.specs.declared.machine.Machine.{Machine}

-- a flight has what the units of a machine have: the words that each said and heard, and its accounts
pub record IsLandedFrom (x : Machine) (fl : Flight) : Type 0 where
  pub journals : fl.journals.items ≡ map (λ ledger. ledger.pages) x.rack.acts.items
  pub accounts : map (λ accounts. map account_of accounts.items) fl.accounts.items ≡ map (λ board. (desk_of board).accounts) (boards_of x)

-- a flight is the one that the order number draws, over rogues that were xs and now are ys: from a machine in which nobody has done anything,
-- with all calls of the storms left, turn by turn until all units are done
pub record IsFlownInOrder {R : Type 0} (allows : R → Call → R → Type 0) (d : MissionData) (order : ℕ) (xs : List R) (fl : Flight) (ys : List R) : Type 0 where
  pub first : Machine
  pub new : IsNewMachine (flown d) d.layout first
  pub calls : List ℕ
  pub all_left : AreAllLeft d calls
  pub last : Machine
  pub calls_left : List ℕ
  pub turns : FliesInOrder allows d order (course first calls xs) (course last calls_left ys)
  pub landed : IsLandedFrom last fl
