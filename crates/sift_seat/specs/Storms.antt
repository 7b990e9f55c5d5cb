-- The storm of a unit in a mission, and how its seat begins it and goes on with it.
use Rattle.std.specs.Prelude.{◌≡◌, ℕ, ◌+◌, ◌-◌, ◌<◌, Option, Some, None}
use Rattle.sift_base.specs.declared.slots.Layout.{Layout}
use Rattle.sift_mission.specs.Data.{MissionData}
use Rattle.sift_script.specs.Faults.{storm_of}
use Rattle.sift_script.specs.declared.script.StormEntry.{StormEntry}
use Rattle.sift_rogue.specs.Storms.{Call, Started, Shoots, sifted}
use Rattle.sift_rogue.specs.declared.rogue.Shot.{Shot}
use Rattle.sift_seat.specs.declared.seat.Seat.{Seat}

-- the storm of a unit, if it has one: the frame from which on it is stray, the number by which its storm begins, and how many strays it has
abbrev pub storm_at : MissionData → ℕ → Option StormEntry
storm_at d u = storm_of d.script.faults u

-- how many calls a storm has: `start`, and `next` for each stray
abbrev pub calls_of : Option StormEntry → ℕ
calls_of None = 0
calls_of (Some storm) = storm.strays + 1

-- and how many of them are left, by what is left once it has begun: before it begins, all are
abbrev pub calls_by : Option StormEntry → Option ℕ → ℕ
calls_by storm None = calls_of storm
calls_by storm (Some left) = left

-- how many calls of its unit's rogue are left at a seat
abbrev pub calls_left : MissionData → Seat → ℕ
calls_left d x = calls_by (storm_at d x.board.unit) x.left

module _ {R : Type 0} (allows : R → Call → R → Type 0) (d : MissionData) (u : ℕ) where
  -- the storm of unit u began at its seat: its rogue, which was r, was called by the storm's number, and now is s; and all of its strays are left
  pub record BeginsStorm (x : Seat) (r : R) (y : Seat) (s : R) : Type 0 where
    pub board : y.board ≡ x.board
    pub storm : StormEntry
    pub storm_is : storm_at d u ≡ Some storm
    pub start : allows r (Started storm.number) s
    pub left : y.left ≡ Some storm.strays

-- under a layout, unit u's rogue was asked for its next act, which comes to this shot, or to none; and one call less is left at its seat
pub record CallsNext {R : Type 0} (allows : R → Call → R → Type 0) (l : Layout) (u : ℕ) (x : Seat) (r : R) (shot : Option Shot) (y : Seat) (s : R) : Type 0 where
  pub board : y.board ≡ x.board
  pub left : ℕ
  pub some : 0 < left
  pub before : x.left ≡ Some left
  pub now : y.left ≡ Some (left - 1)
  pub shoots : Shoots allows (sifted l u) r shot s
