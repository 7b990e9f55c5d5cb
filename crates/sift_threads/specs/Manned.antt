-- Units at their seats, as the pilots that workers drive.
use Rattle.std.specs.Prelude.{◌≡◌, List}
use Rattle.sift_buffer.specs.Conduct.{Stray}
use Rattle.sift_buffer.specs.Views.{View}
use Rattle.sift_mission.specs.Parts.{data_of}
use Rattle.sift_rogue.specs.Storms.{Call}
use Rattle.sift_seat.specs.Seats.{Place, place, IsManned, IsDone, Came as CameAt}
use Rattle.sift_threads.specs.declared.seating.Manned.{Manned}

module _ {T R : Type 0} where
  -- its seat, port and rogue
  abbrev pub place_of : Manned T R → Place T R
  place_of x = place x.seat x.port x.rogue

module _ {T R : Type 0} (view : T → View) where
  -- all that a step wants and keeps
  abbrev pub IsDriven : Manned T R → Type 0
  IsDriven x = IsManned (data_of x.mission.now) (view x.port) x.seat

  -- no step is left
  abbrev pub IsHomeAt : Manned T R → Type 0
  IsHomeAt x = IsDriven x × IsDone (data_of x.mission.now) (view x.port) x.seat

module _ {T R : Type 0} (follows : T → List Stray → T → Type 0) (allows : R → Call → R → Type 0) where
  -- what came of a unit that flew: the same mission is flown, at the same seat, by this seat's turns
  pub record Came (x y : Manned T R) : Type 0 where
    pub mission : y.mission.now ≡ x.mission.now
    pub seat : CameAt follows allows (data_of x.mission.now) (place_of x) (place_of y)

  -- whatever a unit came of, the next came of it too
  abbrev pub Comes : Manned T R → Manned T R → Type 0
  Comes y z = (x : Manned T R) → Came x y → Came x z
