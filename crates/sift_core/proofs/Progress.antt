-- What a step does to the progress of units, and to the distances that are left.
use Rattle.std.proofs.Common.{◌≡◌, ◌≢◌, ℕ, ◌+◌, ◌*◌, ◌-◌, ◌<◌, ◌≤◌, List, [], ◌∷◌, length, slice_index, true, Some, None, sym, ap, ◌∙◌, subst, arith}
use mathlib.Core.Logic.{dite}
use native.Mathlib.Decide.{ℕ_discrete}
use Rattle.sift_base.specs.Units.{has}
use Rattle.sift_base.specs.declared.slots.Layout.{Layout}
use Rattle.sift_buffer.specs.Conduct.{Conduct}
use Rattle.sift_buffer.specs.Lawful.{HasStage}
use Rattle.sift_buffer.specs.Racks.{ranges_for, core_of, conduct_at, view_at, Stands}
use Rattle.sift_config.specs.laws.FirstUnits.{low_unit}
use Rattle.sift_mission.specs.Data.{FlownMission}
use Rattle.sift_flight.specs.Flight.{no_strays}
use Rattle.sift_unit.specs.Desk.{Desk}
use Rattle.sift_unit.specs.Passing.{distance}
use Rattle.sift_unit.specs.Boards.{desk_of, Drives}
use Rattle.sift_unit.specs.Going.{Going}
use Rattle.sift_unit.specs.Stepping.{Steps}
use Rattle.sift_unit.specs.declared.board.Board.{Board}
use Rattle.sift_unit.specs.declared.board.Stepped.{Stepped}
use Rattle.sift_unit.specs.declared.board.Stepped.TheVariants.{Moved, NotYet, Turned, Landed}
use Rattle.sift_core.specs.Machines.{boards_of, IsFlying, HasTurnedIn, board_at, layout_of, progress_at, distances}
use Rattle.sift_core.specs.Steps.{StepsUnit, IsWaiting}
use Rattle.sift_core.specs.Turns.{IsAloft, IsLeast}
use Rattle.sift_core.specs.declared.machine.Machine.{Machine}
use Rattle.sift_seat.specs.laws.Ends.{end_low}
use Rattle.sift_core.proofs.Stages.{keeps_flying, not_left, unfinished_low}
use Rattle.sift_core.proofs.MachineSteps.{unit_below}
use Rattle.sift_core.proofs.Others.{others_stay}
use Rattle.sift_core.proofs.Lists.{sums}

-- a board of a list that has one
pub first_of : (xs : List Board) (u : ℕ) → u < length xs → Board
first_of [] u low = absurd (omega arith)
first_of (b ∷ bs) u low = b

-- the machine has a unit
pub first_low : (x : Machine) → 0 < (layout_of x).units
first_low x = let enough = x.rack.grid.lawful.enough_units in omega arith

-- its first board
pub first : (m : FlownMission) (x : Machine) → IsFlying m x → Board
first m x flying = first_of (boards_of x) 0 (rw flying.1.count (first_low x))

-- the mission is one that boards can fly
pub flyable : (m : FlownMission) (x : Machine) (flying : IsFlying m x) → Drives m (board_at x (first m x flying) 0) (view_at x.rack 0)
flyable m x flying = flying.1.drives 0 (first m x flying) (first_low x)

-- a board that has landed is nearer than one that has not
landed_nearer : (m : FlownMission) (b b' : Desk) → b'.frame ≡ m.frames → b.frame * m.period + b.subframe < m.frames * m.period →
    b.part ≤ 2 → b.slot ≤ 90 → b.other ≤ 8 → distance m b' < distance m b
landed_nearer m b b' ended aloft part slot other =
    let whole : b'.frame * m.period ≡ m.frames * m.period = ap (λ (f : ℕ). f * m.period) ended in
    let over : m.frames * m.period - (b'.frame * m.period + b'.subframe) ≡ 0 = omega arith in
    let some : 1 ≤ m.frames * m.period - (b.frame * m.period + b.subframe) = omega arith in
    omega arith

module _ (m : FlownMission) (x : Machine) (u : ℕ) (r : Stepped) (x' : Machine)
    (flying : IsFlying m x) (flying' : IsFlying m x') (unit : has m.units u ≡ true) (s : StepsUnit m u x r x') where
  low : u < (layout_of x).units
  low = unit_below m x u flying unit

  -- a board for where there is none
  some_board : Board
  some_board = first_of (boards_of x) u (rw flying.1.count low)

  -- the boards before and after
  abbrev b : Board
  b = board_at x some_board u

  abbrev b' : Board
  b' = board_at x' some_board u

  -- what an answer tells
  abbrev Tells : Stepped → Type 0
  Tells a = Steps m (desk_of b) (view_at x.rack u) a (desk_of b') (view_at x'.rack u) (Stands x'.rack)

  outcome : Tells r
  outcome = s.outcome some_board

  drives : Drives m b (view_at x.rack u)
  drives = flying.1.drives u some_board low

  low' : u < (layout_of x').units
  low' = subst (λ (l : Layout). u < l.units) (sym s.layout) low

  drives' : Drives m b' (view_at x'.rack u)
  drives' = flying'.1.drives u some_board low'

  stage' : HasStage (conduct_at x'.rack u)
  stage' = flying'.1.lawful.formed.stage u low'

  -- all distances but this one are the same
  others_distances : distances m x' + distance m (desk_of b) ≡ distances m x + distance m (desk_of b')
  others_distances = sums (λ z. distance m (desk_of z)) (boards_of x) (boards_of x') u some_board
      (flying'.1.count ∙ (ap (λ (l : Layout). l.units) s.layout ∙ sym flying.1.count)) (rw flying.1.count low) s.others

  -- the others keep their progress
  pub others_progress : (p : ℕ) → p ≢ u → progress_at x' p ≡ progress_at x p
  others_progress p ne = ap (λ (d : Conduct). d.progress)
      (others_stay (ranges_for x.rack) u (core_of x.rack no_strays) (core_of x'.rack no_strays) (s.reaches no_strays) p ne)

  -- who waits keeps its own
  progress_kept : (a : Stepped) → Tells a → IsWaiting a → (p : ℕ) → progress_at x' p ≡ progress_at x p
  progress_kept Moved st waits p = absurd waits
  progress_kept Turned st waits p = absurd waits
  progress_kept Landed st waits p = absurd waits
  progress_kept (NotYet q n) st waits p = dite (ℕ_discrete p u)
      (λ e. subst (λ (v : ℕ). progress_at x' v ≡ progress_at x v) (sym e) (ap (λ (d : Conduct). d.progress) st.0.behind.own.conduct))
      (λ ne. others_progress p ne)

  -- where the unit that steps waits, no unit's progress changes
  pub waits_in_place : IsWaiting r → (p : ℕ) → progress_at x' p ≡ progress_at x p
  waits_in_place waits = progress_kept r outcome waits

  -- a unit that has not come to the end flies
  aloft_going : IsAloft m x u → Going m (desk_of b) (conduct_at x.rack u)
  aloft_going aloft = (keeps_flying m b.turned (desk_of b) (conduct_at x.rack u) drives.keeps
      (λ is. let e = end_low m drives.fits in omega arith)).going

  -- how near a step comes: who turns is no farther, nor is who waits, and each other is nearer
  abbrev pub ComesNear : Stepped → Type 0
  ComesNear Moved = distances m x' < distances m x
  ComesNear (NotYet q n) = distances m x' ≤ distances m x
  ComesNear Turned = distances m x' ≤ distances m x
  ComesNear Landed = distances m x' < distances m x

  comes_near : (a : Stepped) → Tells a → IsAloft m x u → ComesNear a
  comes_near Moved st aloft = let e = others_distances in let less = st.nearer in omega arith
  comes_near (NotYet q n) st aloft = let e = others_distances in let less = st.0.no_farther in omega arith
  comes_near Turned st aloft = let e = others_distances in let less = st.no_farther in omega arith
  comes_near Landed st aloft =
      let e = others_distances in let going = aloft_going aloft in let range = going.range in
      let low : b.frame * m.period + b.subframe < m.frames * m.period = subst (λ (n : ℕ). n < m.frames * m.period) going.progress aloft in
      let few : b.slot ≤ 90 = let a = range.slot in let c = drives.fits.numbered.few in omega arith in
      let less = landed_nearer m (desk_of b) (desk_of b') st.ended low range.part few range.other in omega arith

  -- a step of a unit that had yet to land or turn comes as near to the end as its answer tells
  pub step_near : IsAloft m x u → ComesNear r
  step_near aloft = comes_near r outcome aloft

  -- where a unit stands after a step: who moved or waits flies on, who turned has the number of those, and who landed has no storm
  abbrev pub Comes : Stepped → Type 0
  Comes Moved = IsAloft m x' u
  Comes (NotYet q n) = IsAloft m x' u
  Comes Turned = HasTurnedIn x' u × ((from : ℕ) × (m.storm u ≡ Some from))
  Comes Landed = m.storm u ≡ None

  comes : (a : Stepped) → Tells a → IsAloft m x u → Comes a
  comes Moved st aloft =
      let flying = keeps_flying m b'.turned (desk_of b') (conduct_at x'.rack u) drives'.keeps (not_left (conduct_at x'.rack u) stage' st.flies) in
      unfinished_low m (desk_of b') (conduct_at x'.rack u) flying.going st.unfinished
  comes (NotYet q n) st aloft = let same = progress_kept (NotYet q n) st tt u in omega arith
  comes Turned st aloft = (st.number, (b'.frame, ap m.storm drives'.unit ∙ st.storm))
  comes Landed st aloft = ap m.storm drives'.unit ∙ st.calm

  -- after its step a unit that had yet to land or turn stands where its answer tells
  pub step_comes : IsAloft m x u → Comes r
  step_comes aloft = comes r outcome aloft

  -- the least unit has nobody to wait for
  least_waits : (a : Stepped) → Tells a → IsLeast m x u → ¬ IsWaiting a
  least_waits Moved st least waits = waits
  least_waits Turned st least waits = waits
  least_waits Landed st least waits = waits
  least_waits (NotYet q n) st least waits =
      let cause = st.0.behind.cause in
      let other : q < (layout_of x).units = cause.other.0 in
      let there : has m.units q ≡ true = subst (λ (us : List ℕ). has us q ≡ true) (sym flying.1.units) (low_unit (layout_of x).units q other) in
      let number : slice_index x'.rack.words.items q ≡ progress_at x' q =
      flying'.1.lawful.formed.number q (subst (λ (l : Layout). q < l.units) (sym s.layout) other) in
      let kept : progress_at x' q ≡ progress_at x q = progress_kept (NotYet q n) st tt q in
      let stands : slice_index x'.rack.words.items q ≡ n = st.1 in
      let behind : n < progress_at x u = cause.behind in
      let most = least.least q there in
      omega arith

  -- the least unit doesn't wait in its step
  pub least_goes : IsLeast m x u → ¬ IsWaiting r
  least_goes least = least_waits r outcome least
