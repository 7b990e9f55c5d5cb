-- The order of steps: a unit is drawn for each turn.
use Rattle.std.specs.Prelude.{◌≡◌, ◌⊎◌, ℕ, zero, suc, ◌*◌, ◌<◌, ◌≤◌, List, length, slice_index, Bool, true, false, Option, Some, None}
use Rattle.sift_base.specs.Draw.{next_number, drawn}
use Rattle.sift_base.specs.Units.{has}
use Rattle.sift_mission.specs.Data.{MissionData, FlownMission}
use Rattle.sift_mission.specs.Flown.{flown}
use Rattle.sift_rogue.specs.Storms.{Call}
use Rattle.sift_unit.specs.declared.board.Stepped.{Stepped}
use Rattle.sift_core.specs.Machines.{progress_at}
use Rattle.sift_core.specs.Steps.{IsWaiting}
use Rattle.sift_core.specs.Courses.{Course, StepsOn, Spends}
use Rattle.sift_core.specs.declared.machine.Machine.{Machine}

-- ---- who is done

-- the progress of a unit that has landed: the subframe after the last
abbrev pub end_in : FlownMission → ℕ
end_in m = m.frames * m.period

-- a unit has landed or turned: it has come to the subframe after the last, or its number is that of a unit that has turned
abbrev pub IsDown : FlownMission → Machine → ℕ → Type 0
IsDown m x u = end_in m ≤ progress_at x u

-- or it has yet to do either
abbrev pub IsAloft : FlownMission → Machine → ℕ → Type 0
IsAloft m x u = progress_at x u < end_in m

-- all units have landed or turned
abbrev pub AreAllDown : FlownMission → Machine → Type 0
AreAllDown m x = (u : ℕ) → has m.units u ≡ true → IsDown m x u

-- a unit is done: it has landed, or it has turned and no call of its rogue is left
abbrev pub IsDone : FlownMission → Machine → List ℕ → ℕ → Type 0
IsDone m x left u = IsDown m x u × (slice_index left u ≡ 0)

-- all units are done
abbrev pub AreAllDone : FlownMission → Machine → List ℕ → Type 0
AreAllDone m x left = (u : ℕ) → has m.units u ≡ true → IsDone m x left u

-- a unit has neither landed nor turned, no unit has less progress, and each lower-numbered one has more
pub record IsLeast (m : FlownMission) (x : Machine) (u : ℕ) : Type 0 where
  pub unit : has m.units u ≡ true
  pub aloft : IsAloft m x u
  pub least : (p : ℕ) → has m.units p ≡ true → progress_at x u ≤ progress_at x p
  pub lowest : (p : ℕ) → p < u → progress_at x u < progress_at x p

-- calls of a unit's rogue are left, and of no lower-numbered one's
pub record IsFirstLeft (m : FlownMission) (left : List ℕ) (u : ℕ) : Type 0 where
  pub unit : has m.units u ≡ true
  pub some : 0 < slice_index left u
  pub lowest : (p : ℕ) → p < u → slice_index left p ≡ 0

-- ---- one turn

-- of so many units u was drawn, where the drawer's number was n, and now is n'
pub record IsDrawn (units n n' u : ℕ) : Type 0 where
  pub next : n' ≡ next_number n
  pub drawn_is : u ≡ drawn n' units
  pub there : u < units

module _ {R : Type 0} (allows : R → Call → R → Type 0) where
  -- the unit has neither landed nor turned, and steps, and does not wait
  pub record StepsItself (d : MissionData) (u : ℕ) (s s' : Course R) : Type 0 where
    pub aloft : IsAloft (flown d) s.machine u
    pub answer : Stepped
    pub stepped : StepsOn allows d u s answer s'
    pub goes : ¬ IsWaiting answer

  -- the unit has neither landed nor turned, and steps, and waits
  pub record Waits (d : MissionData) (u : ℕ) (s s' : Course R) : Type 0 where
    pub aloft : IsAloft (flown d) s.machine u
    pub answer : Stepped
    pub stepped : StepsOn allows d u s answer s'
    pub waits : IsWaiting answer

  -- the unit has turned, calls of its rogue are left, and one is made
  pub record SpendsItself (d : MissionData) (u : ℕ) (s s' : Course R) : Type 0 where
    pub down : IsDown (flown d) s.machine u
    pub some : 0 < slice_index s.left u
    pub spends : Spends allows u s s'

  -- a unit gives its turn away: it is done, and nothing happens, or it waits
  abbrev pub GivesAway : MissionData → ℕ → Course R → Course R → Type 0
  GivesAway d u s s' = (IsDone (flown d) s.machine s.left u × (s' ≡ s)) ⊎ Waits d u s s'

  -- whether an undone unit goes itself
  abbrev pub Tries : MissionData → ℕ → Course R → Bool → Course R → Type 0
  Tries d u s true s' = StepsItself d u s s' ⊎ SpendsItself d u s s'
  Tries d u s false s' = GivesAway d u s s'

  -- the unit gives its turn away, and the least unit v steps
  pub record LeastGoes (d : MissionData) (u : ℕ) (s : Course R) (v : ℕ) (s' : Course R) : Type 0 where
    pub between : Course R
    pub given : GivesAway d u s between
    pub least : IsLeast (flown d) between.machine v
    pub steps : StepsItself d v between s'

  -- the unit gives its turn away, all units have landed or turned, and the first of which calls are left makes one
  pub record FirstSpends (d : MissionData) (u : ℕ) (s : Course R) (v : ℕ) (s' : Course R) : Type 0 where
    pub between : Course R
    pub given : GivesAway d u s between
    pub down : AreAllDown (flown d) between.machine
    pub first : IsFirstLeft (flown d) between.left v
    pub spends : Spends allows v between s'

  -- a turn of unit u, in which v is the last to go: u itself, or else the least, or else the first of which calls are left
  abbrev pub TakesTurn : MissionData → ℕ → Course R → ℕ → Course R → Type 0
  TakesTurn d u s v s' = ((v ≡ u) × Tries d u s true s') ⊎ (LeastGoes d u s v s' ⊎ FirstSpends d u s v s')

  -- ---- all turns

  -- the turn that is drawn when the drawer has number n; where all are done, there is none, and nothing is drawn
  abbrev pub TurnsAt : MissionData → ℕ → Course R → Option ℕ → ℕ → Course R → Type 0
  TurnsAt d n s None n' s' = AreAllDone (flown d) s.machine s.left × (n' ≡ n) × (s' ≡ s)
  TurnsAt d n s (Some v) n' s' = (n' ≡ next_number n) × TakesTurn d (drawn n' (length (flown d).units)) s v s'

  -- after so many turns, drawn one after the other from the order number, the drawer's number is n' and the flight has come to s'
  abbrev pub AfterTurns : MissionData → ℕ → Course R → ℕ → ℕ → Course R → Type 0
  AfterTurns d order s zero n' s' = (n' ≡ order) × (s' ≡ s)
  AfterTurns d order s (suc count) n' s' = (n : ℕ) × (between : Course R) × (v : ℕ) × AfterTurns d order s count n between × TurnsAt d n between (Some v) n' s'

  -- turn by turn all units were done
  pub record FliesInOrder (d : MissionData) (order : ℕ) (s s' : Course R) : Type 0 where
    pub turns : ℕ
    pub number : ℕ
    pub after : AfterTurns d order s turns number s'
    pub done : AreAllDone (flown d) s'.machine s'.left
