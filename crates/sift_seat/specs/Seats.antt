-- Seats: what a turn wants and keeps, and what comes of a seat by its turns.
use Rattle.std.specs.Prelude.{◌≡◌, ℕ, ◌*◌, ◌-◌, ◌<◌, ◌≤◌, List, [], length, slice_index_or, Option, Some, None, option_map, option_to_list, ⊤}
use Rattle.sift_buffer.specs.Conduct.{Stray, never}
use Rattle.sift_buffer.specs.Tables.{ranges_of}
use Rattle.sift_buffer.specs.Views.{View, IsButForStrays}
use Rattle.sift_mission.specs.Data.{MissionData, FlownMission}
use Rattle.sift_mission.specs.Flown.{flown}
use Rattle.sift_rogue.specs.Storms.{Call, Storms, sifted, stray_of}
use Rattle.sift_rogue.specs.declared.rogue.Act.{Act}
use Rattle.sift_rogue.specs.declared.rogue.Shot.{Shot}
use Rattle.sift_script.specs.declared.script.StormEntry.{StormEntry}
use Rattle.sift_unit.specs.Boards.{Drives, IsNewBoard}
use Rattle.sift_seat.specs.Storms.{CallsNext, storm_at}
use Rattle.sift_seat.specs.declared.seat.Gone.{Gone}
use Rattle.sift_seat.specs.declared.seat.Gone.TheVariants.{Moved, Waits, Strayed, Done}
use Rattle.sift_seat.specs.declared.seat.Seat.{Seat}

-- the seat of unit u before the flight: its board is new, and no storm has begun
pub record IsNewSeat (m : FlownMission) (u : ℕ) (x : Seat) : Type 0 where
  pub board : IsNewBoard m u x.board
  pub left : x.left ≡ None

-- so many of them, in the order of their units
pub record AreNewSeats (m : FlownMission) (units : ℕ) (seats : List Seat) : Type 0 where
  pub count : length seats ≡ units
  pub new : (u : ℕ) (x : Seat) → u < units → IsNewSeat m u (slice_index_or seats u x)

-- calls of its unit's rogue are left, once its storm has begun
abbrev pub HasCalls : Seat → Type 0
HasCalls x = (left : ℕ) × (x.left ≡ Some left) × (0 < left)

-- ---- what a turn wants and keeps

module _ (d : MissionData) where
  -- the progress of a unit that has landed: the subframe after the last
  abbrev pub end_of : ℕ
  end_of = (flown d).frames * (flown d).period

  -- the storm of the seat's unit, if it has one
  abbrev pub storm_of : Seat → Option StormEntry
  storm_of x = storm_at d x.board.unit

  -- the stray that an act of its unit comes to, if it comes to one
  abbrev pub sifted_at : Seat → Act → Option Stray
  sifted_at x = sifted d.layout x.board.unit

  -- the unit of a port has not turned, and is at the end at most
  pub record HasNotTurned (v : View) : Type 0 where
    pub flies : v.conduct.left ≡ never
    pub low : v.conduct.progress ≤ end_of

  -- the unit has turned, and so many calls of its rogue are left of its storm
  pub record IsStraying (v : View) (x : Seat) (left : ℕ) : Type 0 where
    pub turned : v.conduct.left < never
    pub number : v.conduct.progress ≡ never
    pub storm : StormEntry
    pub storm_is : storm_of x ≡ Some storm
    pub few : left ≤ storm.strays

  -- all that a turn wants and keeps: the board drives on the port, which is one of the mission's layout and frames; and the unit has not turned
  -- or is stray, as the seat says
  pub record IsManned (v : View) (x : Seat) : Type 0 where
    pub drives : Drives (flown d) x.board v
    pub ranges : v.ranges ≡ ranges_of d.layout d.frames
    pub flies : x.left ≡ None → HasNotTurned v
    pub strays : (left : ℕ) → x.left ≡ Some left → IsStraying v x left

  -- no turn is left: the unit has landed, and has no storm, or it has turned, and all calls of its rogue were made
  pub record IsDone (v : View) (x : Seat) : Type 0 where
    pub landed : x.left ≡ None → (v.conduct.progress ≡ end_of) × (storm_of x ≡ None)
    pub spent : (left : ℕ) → x.left ≡ Some left → left ≡ 0

-- what is said of a seat whose turn found that none is left
abbrev pub IfDone : Gone → Type 0 → Type 0
IfDone Moved P = ⊤
IfDone (Waits unit seen) P = ⊤
IfDone Strayed P = ⊤
IfDone Done P = P

-- ---- what comes of it

-- a seat, with the port and the rogue that are lent to it
pub record Place (T R : Type 0) : Type 0 where
  pub seat : Seat
  pub port : T
  pub rogue : R

abbrev pub place : {T R : Type 0} → Seat → T → R → Place T R
place x p r = record { seat = x; port = p; rogue = r }

-- the rogue was asked for its next act, and the stray to which it comes was stored, if it comes to one
pub record StoresNext {T R : Type 0} (view : T → View) (follows : T → List Stray → T → Type 0) (allows : R → Call → R → Type 0) (d : MissionData)
    (x y : Place T R) : Type 0 where
  pub shot : Option Shot
  pub called : CallsNext allows d.layout x.seat.board.unit x.seat x.rogue shot y.seat y.rogue
  pub view_is : IsButForStrays (view x.port) (view y.port)
  pub port : follows x.port (option_to_list (option_map stray_of shot)) y.port

module _ {T R : Type 0} (follows : T → List Stray → T → Type 0) (allows : R → Call → R → Type 0) (d : MissionData) where
  -- what came of a seat whose unit flew: the same unit at the same port, which has stored these strays since; where the unit flies, its rogue is
  -- as it was, and it has stored none; and where it has turned, its rogue was called by `start` with the storm's number and then for all but so
  -- many of its strays, and these are those that its unit stored
  pub record Came (x y : Place T R) : Type 0 where
    pub unit : y.seat.board.unit ≡ x.seat.board.unit
    pub strays : List Stray
    pub port : follows x.port strays y.port
    pub flies : y.seat.left ≡ None → (y.rogue ≡ x.rogue) × (strays ≡ [])
    pub turned : (left : ℕ) (storm : StormEntry) → y.seat.left ≡ Some left → storm_of d x.seat ≡ Some storm →
        Storms allows (sifted_at d x.seat) (record { number = storm.number; count = storm.strays - left; strays = strays }) x.rogue y.rogue

  -- whatever a seat came of, the next came of it too
  abbrev pub Comes : Place T R → Place T R → Type 0
  Comes y z = (x : Place T R) → Came x y → Came x z
