-- A machine: its rack and its seats, and what holds of them after any steps of its units.
use Rattle.std.specs.Prelude.{◌≡◌, ℕ, ◌<◌, List, map, length, slice_index_or}
use Rattle.std.specs.List.{sum_by}
use Rattle.sift_base.specs.declared.slots.Layout.{Layout}
use Rattle.sift_config.specs.Config.{first_units}
use Rattle.sift_buffer.specs.Conduct.{Stray, never}
use Rattle.sift_buffer.specs.Lawful.{Lawful}
use Rattle.sift_mission.specs.Data.{FlownMission}
use Rattle.sift_conduct.specs.Conduct.{Account}
use Rattle.sift_unit.specs.Desk.{accounts_of}
use Rattle.sift_unit.specs.Passing.{distance}
use Rattle.sift_unit.specs.Boards.{desk_of, Drives}
use Rattle.sift_unit.specs.declared.board.Board.{Board}
use Rattle.sift_seat.specs.Seats.{AreNewSeats, HasCalls}
use Rattle.sift_seat.specs.declared.seat.Seat.{Seat}
use Rattle.sift_flight.specs.Flight.{Strays}
use Rattle.sift_buffer.specs.Racks.{IsNewRack, IsStored, ranges_for, core_of, conduct_at, view_at}
use Rattle.sift_core.specs.declared.machine.Machine.{Machine}

-- the layout of the machine's slots
abbrev pub layout_of : Machine → Layout
layout_of x = x.rack.grid.layout

-- the boards at its seats, in the order of their units
abbrev pub boards_of : Machine → List Board
boards_of x = map (λ s. s.board) x.seats.items

-- the board of a unit, and a board d where there is none
abbrev pub board_at : Machine → Board → ℕ → Board
board_at x d u = slice_index_or (boards_of x) u d

-- and the accounts of its unit, by frame
abbrev pub accounts_at : FlownMission → Machine → Board → ℕ → ℕ → Account
accounts_at m x d u = accounts_of m (desk_of (board_at x d u))

-- the progress number of a unit
abbrev pub progress_at : Machine → ℕ → ℕ
progress_at x u = (conduct_at x.rack u).progress

-- the unit has turned: its progress number tells it
abbrev pub HasTurnedIn : Machine → ℕ → Type 0
HasTurnedIn x u = progress_at x u ≡ never

-- the machine flies the mission, and its units have stored these strays: its core is lawful, and each unit's board drives on this unit's own
-- view of the rack
pub record Flies (m : FlownMission) (w : Strays) (x : Machine) : Type 0 where
  pub units : m.units ≡ first_units (layout_of x).units
  pub lawful : Lawful (ranges_for x.rack) (core_of x.rack w)
  pub count : length (boards_of x) ≡ (layout_of x).units
  pub frames : x.rack.grid.frames ≡ m.frames
  pub drives : (u : ℕ) (d : Board) → u < (layout_of x).units → Drives m (board_at x d u) (view_at x.rack u)

-- it flies the mission, with some strays
abbrev pub IsFlying : FlownMission → Machine → Type 0
IsFlying m x = (w : Strays) × Flies m w x

-- how far all boards are from the flight's end
abbrev pub distances : FlownMission → Machine → ℕ
distances m x = sum_by (λ b. distance m (desk_of b)) (boards_of x)

-- no unit has done anything, and all seats are new
pub record IsNewMachine (m : FlownMission) (layout : Layout) (x : Machine) : Type 0 where
  pub rack : IsNewRack x.rack layout m.frames
  pub seats : AreNewSeats m layout.units x.seats.items

-- a unit's stray was stored, and no board has changed
pub record StoresStray (u : ℕ) (s : Stray) (x x' : Machine) : Type 0 where
  pub rack : IsStored x.rack u s x'.rack
  pub boards : boards_of x' ≡ boards_of x

-- nothing has changed but how many calls of rogues are left
pub record IsButForCalls (x x' : Machine) : Type 0 where
  pub rack : x'.rack ≡ x.rack
  pub boards : boards_of x' ≡ boards_of x

-- calls of a unit's rogue are left at its seat
abbrev pub HasCallsAt : Machine → ℕ → Type 0
HasCallsAt x u = (d : Seat) → HasCalls (slice_index_or x.seats.items u d)
