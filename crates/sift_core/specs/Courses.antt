-- A flight under way: the machine, the rogues of its units, and how many of their calls are left.
use Rattle.std.specs.Prelude.{◌≡◌, ℕ, ◌+◌, ◌-◌, ◌<◌, List, map, length, slice_index, slice_index_or, slice_set, Option, Some, option_map}
use Rattle.std.specs.List.{sum_by}
use Rattle.sift_mission.specs.Data.{MissionData}
use Rattle.sift_mission.specs.Flown.{flown}
use Rattle.sift_script.specs.declared.script.StormEntry.{StormEntry}
use Rattle.sift_rogue.specs.declared.rogue.Shot.{Shot}
use Rattle.sift_rogue.specs.Storms.{Call, Started, Shoots, sifted, stray_of}
use Rattle.sift_seat.specs.Storms.{storm_at, calls_of, calls_left}
use Rattle.sift_unit.specs.declared.board.Stepped.{Stepped}
use Rattle.sift_unit.specs.declared.board.Stepped.TheVariants.{Moved, NotYet, Turned, Landed}
use Rattle.sift_core.specs.Machines.{distances, layout_of}
use Rattle.sift_core.specs.Steps.{StepsUnit, Stores}
use Rattle.sift_core.specs.declared.machine.Machine.{Machine}

-- the machine; by unit, how many calls of its rogue are left, and the rogue
pub record Course (R : Type 0) : Type 0 where
  pub machine : Machine
  pub left : List ℕ
  pub rogues : List R

abbrev pub course : {R : Type 0} → Machine → List ℕ → List R → Course R
course x left rogues = record { machine = x; left = left; rogues = rogues }

-- how many calls are left at the seats of a machine, by unit
abbrev pub lefts : MissionData → Machine → List ℕ
lefts d x = map (calls_left d) x.seats.items

-- the flight of a machine, with these rogues
abbrev pub course_of : {R : Type 0} → MissionData → Machine → List R → Course R
course_of d x rogues = course x (lefts d x) rogues

-- no call of any storm was made: all are left
pub record AreAllLeft (d : MissionData) (left : List ℕ) : Type 0 where
  pub long : length left ≡ d.units
  pub each : (u : ℕ) → u < d.units → slice_index left u ≡ calls_of (storm_at d u)

-- how far a flight is from its end: by its boards' distances, and by the calls that are left
abbrev pub rest : {R : Type 0} → MissionData → Course R → ℕ
rest d s = distances (flown d) s.machine + sum_by (λ (n : ℕ). n) s.left

-- no rogue was called
pub record IsUncalled {R : Type 0} (s s' : Course R) : Type 0 where
  pub rogues : s'.rogues ≡ s.rogues
  pub left : s'.left ≡ s.left

-- one call of unit u's rogue, which made another of it in this way, and none of another unit's; and one call less is left of unit u
pub record IsCalled {R : Type 0} (by : R → R → Type 0) (u : ℕ) (xs : List R) (left : List ℕ) (ys : List R) (left' : List ℕ) : Type 0 where
  pub after : R
  pub called : (r : R) → by (slice_index_or xs u r) after
  pub rogues : ys ≡ slice_set xs u after
  pub left_is : left' ≡ slice_set left u (slice_index left u - 1)

module _ {R : Type 0} (allows : R → Call → R → Type 0) where
  -- the storm of unit u began: the rogue at this unit's place was called by the number of its storm, and of its calls one less is left
  pub record BeginsStorm (d : MissionData) (u : ℕ) (xs : List R) (left : List ℕ) (ys : List R) (left' : List ℕ) : Type 0 where
    pub storm : StormEntry
    pub storm_is : storm_at d u ≡ Some storm
    pub called : IsCalled (λ x y. allows x (Started storm.number) y) u xs left ys left'

  -- what a step's answer tells of rogues: where the unit turned its storm began, and else no rogue was called
  abbrev pub Begins : MissionData → ℕ → Stepped → Course R → Course R → Type 0
  Begins d u Moved s s' = IsUncalled s s'
  Begins d u (NotYet p n) s s' = IsUncalled s s'
  Begins d u Turned s s' = BeginsStorm d u s.rogues s.left s'.rogues s'.left
  Begins d u Landed s s' = IsUncalled s s'

  -- unit u stepped, with this answer
  pub record StepsOn (d : MissionData) (u : ℕ) (s : Course R) (answer : Stepped) (s' : Course R) : Type 0 where
    pub stepped : StepsUnit (flown d) u s.machine answer s'.machine
    pub begun : Begins d u answer s s'

  -- unit u's rogue was asked for its next act, and the stray to which it comes was stored, if it comes to one
  pub record Spends (u : ℕ) (s s' : Course R) : Type 0 where
    pub shot : Option Shot
    pub called : IsCalled (λ x y. Shoots allows (sifted (layout_of s.machine) u) x shot y) u s.rogues s.left s'.rogues s'.left
    pub stored : Stores u (option_map stray_of shot) s.machine s'.machine
