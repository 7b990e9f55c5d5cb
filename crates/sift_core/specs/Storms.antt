-- Storms in a flight: which calls are left of each, and over which strays a flight is round.
use Rattle.std.specs.Prelude.{◌≡◌, ℕ, ◌+◌, ◌-◌, ◌<◌, ◌≤◌, List, [], length, slice_index, slice_index_or, Some, None}
use Rattle.sift_base.specs.Units.{unit_limit}
use Rattle.sift_buffer.specs.Conduct.{Stray}
use Rattle.sift_mission.specs.Data.{MissionData}
use Rattle.sift_mission.specs.Flown.{flown}
use Rattle.sift_rogue.specs.Storms.{Call, Storms, sifted}
use Rattle.sift_script.specs.declared.script.StormEntry.{StormEntry}
use Rattle.sift_flight.specs.Flight.{Strays, IsRound}
use Rattle.sift_flight.specs.Told.{told}
use Rattle.sift_flight.specs.declared.flight.Flight.{Flight}
use Rattle.sift_core.specs.Machines.{Flies, IsFlying, HasTurnedIn, layout_of}
use Rattle.sift_seat.specs.Storms.{storm_at}
use Rattle.sift_core.specs.Courses.{Course}
use Rattle.sift_core.specs.Turns.{IsAloft, IsDown}
use Rattle.sift_core.specs.declared.machine.Machine.{Machine}

-- ---- under way

-- so many calls of a unit's rogue are left: none where it has no storm; `start`, and `next` for each stray, before it has turned; and then
-- `next` for each stray that it has not spent
pub record IsLeft (d : MissionData) (x : Machine) (u left : ℕ) : Type 0 where
  pub calm : storm_at d u ≡ None → left ≡ 0
  pub before : (storm : StormEntry) → storm_at d u ≡ Some storm → IsAloft (flown d) x u → left ≡ storm.strays + 1
  pub after : (storm : StormEntry) → storm_at d u ≡ Some storm → IsDown (flown d) x u → (left ≤ storm.strays) × HasTurnedIn x u

-- so many are left of each unit
pub record AreLeft (d : MissionData) (x : Machine) (left : List ℕ) : Type 0 where
  pub long : length left ≡ d.units
  pub each : (u : ℕ) → u < d.units → IsLeft d x u (slice_index left u)

-- a flight is under way: its machine flies the mission, there is a rogue for each unit that there may be, and so many calls are left of each
pub record IsUnderWay {R : Type 0} (d : MissionData) (s : Course R) : Type 0 where
  pub flies : IsFlying (flown d) s.machine
  pub rogues : length s.rogues ≡ unit_limit
  pub left : AreLeft d s.machine s.left

module _ {R : Type 0} (allows : R → Call → R → Type 0) where
  -- a unit's rogue was x at first, and is y now, where so many of its calls are left and the unit has stored these strays: it is as it was
  -- where the unit has no storm, or has yet to turn, and else all other calls of its storm were made
  pub record HasMadeCalls (d : MissionData) (m : Machine) (u : ℕ) (x : R) (left : ℕ) (strays : List Stray) (y : R) : Type 0 where
    pub calm : storm_at d u ≡ None → y ≡ x
    pub before : (storm : StormEntry) → storm_at d u ≡ Some storm → IsAloft (flown d) m u → (y ≡ x) × (strays ≡ [])
    pub after : (storm : StormEntry) → storm_at d u ≡ Some storm → IsDown (flown d) m u →
        Storms allows (sifted (layout_of m) u) (record { number = storm.number; count = storm.strays - left; strays = strays }) x y

  -- so did each unit's rogue, and those beyond the units are as they were
  pub record HaveMadeCalls (d : MissionData) (xs : List R) (w : Strays) (s : Course R) : Type 0 where
    pub long : length s.rogues ≡ length xs
    pub each : (u : ℕ) (r : R) → u < d.units →
        HasMadeCalls d s.machine u (slice_index_or xs u r) (slice_index s.left u) (w u) (slice_index_or s.rogues u r)
    pub beyond : (u : ℕ) (r : R) → d.units ≤ u → slice_index_or s.rogues u r ≡ slice_index_or xs u r

  -- the machine flies the mission with strays that these rogues gave
  pub record FliesByRogues (d : MissionData) (xs : List R) (s : Course R) : Type 0 where
    pub strays : Strays
    pub flies : Flies (flown d) strays s.machine
    pub called : HaveMadeCalls d xs strays s

  -- and still does, whatever the rogues were at first
  abbrev pub CarriesOn : MissionData → Course R → Course R → Type 0
  CarriesOn d s s' = (xs : List R) → FliesByRogues d xs s → FliesByRogues d xs s'

  -- ---- in the end

  -- a flight is round over strays that these rogues gave: the rogue of each unit with a storm was called once by `start` with the storm's
  -- number, and then by `next` once for each of its strays, and it is now what these calls left; each other rogue is as it was
  pub record IsRoundByRogues (d : MissionData) (xs : List R) (fl : Flight) (ys : List R) : Type 0 where
    pub strays : Strays
    pub round : IsRound (flown d) strays (told (flown d) fl)
    pub long : length ys ≡ length xs
    pub storms : (u : ℕ) (r : R) (storm : StormEntry) → u < d.units → storm_at d u ≡ Some storm →
        Storms allows (sifted d.layout u) (record { number = storm.number; count = storm.strays; strays = strays u }) (slice_index_or xs u r) (slice_index_or ys u r)
    pub calm : (u : ℕ) (r : R) → u < d.units → storm_at d u ≡ None → slice_index_or ys u r ≡ slice_index_or xs u r
    pub beyond : (u : ℕ) (r : R) → d.units ≤ u → slice_index_or ys u r ≡ slice_index_or xs u r
