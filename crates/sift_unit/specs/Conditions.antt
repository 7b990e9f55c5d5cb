-- When a board is in flight or stands at a slot, and when it may walk, pass and go on.
use Rattle.std.specs.Prelude.{◌≡◌, ℕ, ◌<◌, true}
use Rattle.sift_buffer.specs.Views.{View}
use Rattle.sift_mission.specs.Data.{FlownMission}
use Rattle.sift_mission.specs.Fits.{Fits}
use Rattle.sift_unit.specs.Desk.{Desk, is_end}
use Rattle.sift_unit.specs.Going.{InRange}
use Rattle.sift_unit.specs.Keeping.{IsEarly}
use Rattle.sift_unit.specs.Passing.{IsWhole}
use Rattle.sift_unit.specs.Boards.{desk_of, Drives}
use Rattle.sift_unit.specs.declared.board.Board.{Board as TheBoard}

-- the board is in flight: it drives on its port, its unit's storm, if there is one, is yet to come, and a frame is left
pub record IsInFlight (m : FlownMission) (b : TheBoard) (v : View) : Type 0 where
  pub drives : Drives m b v
  pub early : IsEarly m (desk_of b)
  pub frame : b.frame < m.frames

-- a board may walk from place to place: its mission is one that boards can fly, and its numbers are in range
pub record MayWalk (m : FlownMission) (b : Desk) : Type 0 where
  pub fits : Fits m
  pub range : InRange m b

-- the board stands at a slot, in part t of its subframe
pub record IsAtSlot (m : FlownMission) (t : ℕ) (b : Desk) : Type 0 where
  pub part : b.part ≡ t
  pub slot : b.slot < m.slots

-- a board may pass on from where it stands: it may walk, in a frame of the flight, and there is no call left at its slot
pub record MayPass (m : FlownMission) (b : Desk) : Type 0 where
  pub walks : MayWalk m b
  pub frame : b.frame < m.frames
  pub whole : IsWhole m b

-- a board may go on to the next subframe: it may walk, in a frame of the flight, it knows how many frames there are, and it stands at its
-- subframe's end
pub record MayGoOn (m : FlownMission) (b : TheBoard) : Type 0 where
  pub walks : MayWalk m (desk_of b)
  pub frame : b.frame < m.frames
  pub frames : b.frames ≡ m.frames
  pub end : is_end m (desk_of b) ≡ true
