-- What one step of one unit came to.
use Rattle.std.specs.Prelude.{◌≡◌, ◌≢◌, ℕ, Option, Some, None, ⊤}
use Rattle.sift_buffer.specs.Conduct.{Stray}
use Rattle.sift_buffer.specs.Reaches.{Reaches}
use Rattle.sift_mission.specs.Data.{FlownMission}
use Rattle.sift_unit.specs.Boards.{desk_of}
use Rattle.sift_unit.specs.Stepping.{Steps}
use Rattle.sift_unit.specs.declared.board.Board.{Board}
use Rattle.sift_unit.specs.declared.board.Stepped.{Stepped}
use Rattle.sift_unit.specs.declared.board.Stepped.TheVariants.{Moved, NotYet, Turned, Landed}
use Rattle.sift_flight.specs.Flight.{Strays}
use Rattle.sift_buffer.specs.Racks.{ranges_for, core_of, view_at, Stands}
use Rattle.sift_core.specs.Machines.{layout_of, board_at, StoresStray, IsButForCalls}
use Rattle.sift_core.specs.declared.machine.Machine.{Machine}

-- unit u stepped, with this answer: whatever was stored before, all that changed of the core is by its events and it stored no stray; each other board is
-- as it was, and its own board tells what the answer says
pub record StepsUnit (m : FlownMission) (u : ℕ) (x : Machine) (r : Stepped) (x' : Machine) : Type 0 where
  pub layout : layout_of x' ≡ layout_of x
  pub reaches : (w : Strays) → Reaches (ranges_for x.rack) u (core_of x.rack w) (core_of x'.rack w)
  pub others : (p : ℕ) (d : Board) → p ≢ u → board_at x' d p ≡ board_at x d p
  pub outcome : (d : Board) → Steps m (desk_of (board_at x d u)) (view_at x.rack u) r (desk_of (board_at x' d u)) (view_at x'.rack u) (Stands x'.rack)

-- the answer of a unit that waits
abbrev pub IsWaiting : Stepped → Type 0
IsWaiting Moved = ⊥
IsWaiting (NotYet p n) = ⊤
IsWaiting Turned = ⊥
IsWaiting Landed = ⊥

-- unit u stored this stray, or nothing has changed, where there is none; how many calls of rogues are left is another matter
abbrev pub Stores : ℕ → Option Stray → Machine → Machine → Type 0
Stores u None x x' = IsButForCalls x x'
Stores u (Some s) x x' = StoresStray u s x x'
