-- What a step of one unit keeps of a machine, and what it tells.
use Rattle.std.proofs.Common.{◌≡◌, ◌≢◌, ℕ, ◌<◌, Vec, List, [], length, length-set, map, slice_set, slice_index, slice_index_or, true, sym, refl, ap, ◌∙◌, subst}
use Rattle.std.specs.declared.alloc.Global.{Global}
use Rattle.std.proofs.lemmas.List.{get_or-map, get_or-set_same, get_or-set_other, length-map, map-set}
use Rattle.std.proofs.Math.Seq.{map-set_same}
use mathlib.Core.Logic.{dite}
use native.Mathlib.Decide.{ℕ_discrete}
use Rattle.sift_base.specs.Units.{has}
use Rattle.sift_base.specs.declared.slots.Layout.{Layout}
use Rattle.sift_config.specs.Config.{first_units}
use Rattle.sift_buffer.specs.Ranges.{Ranges}
use Rattle.sift_buffer.specs.Conduct.{Conduct}
use Rattle.sift_buffer.specs.Core.{Core}
use Rattle.sift_buffer.specs.Tables.{ranges_of}
use Rattle.sift_buffer.specs.Lawful.{Lawful}
use Rattle.sift_buffer.specs.Laws.{EventsKeepLawful}
use Rattle.sift_buffer.specs.Ledgers.{conduct_in}
use Rattle.sift_buffer.specs.Reaches.{Reaches}
use Rattle.sift_buffer.specs.Views.{View}
use Rattle.sift_buffer.specs.Crews.{core_by, ledger_at, with_strays}
use Rattle.sift_buffer.specs.Following.{none_more}
use Rattle.sift_buffer.specs.Racks.{Follows, IsChosen, Stands, ranges_for, core_of, view_of, view_at}
use Rattle.sift_buffer.specs.declared.rack.Rack.{Rack}
use Rattle.sift_config.specs.laws.FirstUnits.{unit_low}
use Rattle.sift_mission.specs.Data.{FlownMission, MissionData}
use Rattle.sift_flight.specs.Flight.{Strays, no_strays}
use Rattle.sift_unit.specs.Boards.{desk_of, Drives, IsPortOf}
use Rattle.sift_unit.specs.Keeping.{KeepsAs}
use Rattle.sift_unit.specs.Stepping.{Steps}
use Rattle.sift_seat.specs.Storms.{calls_by, calls_left, storm_at}
use Rattle.sift_seat.specs.declared.seat.Seat.{Seat}
use Rattle.sift_unit.specs.declared.board.Board.{Board}
use Rattle.sift_unit.specs.declared.board.Stepped.{Stepped}
use Rattle.sift_core.specs.Machines.{Flies, IsFlying, board_at, boards_of, layout_of}
use Rattle.sift_core.specs.Courses.{lefts}
use Rattle.sift_core.specs.Steps.{StepsUnit}
use Rattle.sift_core.specs.declared.machine.Machine.{Machine}
use Rattle.sift_core.proofs.Others.{others_stay, reached_lawful}

-- the unit is one of the rack's
pub unit_below : (m : FlownMission) (x : Machine) (u : ℕ) → IsFlying m x → has m.units u ≡ true → u < (layout_of x).units
unit_below m x u flying there = unit_low (layout_of x).units u (subst (λ (us : List ℕ). has us u ≡ true) flying.1.units there)

-- another choice of the unit leaves ranges, core and, for the unit, the view
module _ (x : Rack) (u : ℕ) (c : Rack) (chosen : IsChosen x u c) where
  pub same_ranges : ranges_for c ≡ ranges_for x
  same_ranges i = ranges_of (chosen.layout i) (chosen.frames i)

  pub same_core : (w : Strays) → core_of c w ≡ core_of x w
  same_core w i = core_by (chosen.words i).items (chosen.acts i).items w

  pub same_view : view_of c ≡ view_at x u
  same_view i = record {
    ranges = same_ranges i;
    unit = chosen.unit i;
    conduct = conduct_in (ledger_at (chosen.acts i).items (chosen.unit i));
    looks = slice_index (chosen.looks i) (chosen.unit i);
    last = record { unit = slice_index (chosen.last_units i) (chosen.unit i); number = slice_index (chosen.last_numbers i) (chosen.unit i) };
  }

-- a board drives on another view of the same unit, ranges and conduct
drives_by : (m : FlownMission) (b : Board) (v w : View) → w.unit ≡ v.unit → w.ranges ≡ v.ranges → w.conduct ≡ v.conduct → Drives m b v → Drives m b w
drives_by m b v w unit ranges conduct d = record {
  fits = d.fits;
  storms = d.storms;
  unit = unit ∙ d.unit;
  ranges = subst (λ (r : Ranges). IsPortOf m r) (sym ranges) d.ranges;
  frames = d.frames;
  storm = d.storm;
  keeps = subst (λ (c : Conduct). KeepsAs m b.turned (desk_of b) c) (sym conduct) d.keeps;
}

-- as many seats as boards
pub seats_long : (m : FlownMission) (x : Machine) → IsFlying m x → length x.seats.items ≡ (layout_of x).units
seats_long m x flying = sym (length-map x.seats.items (λ (s : Seat). s.board)) ∙ flying.1.count

pub seat_low : (m : FlownMission) (x : Machine) (u : ℕ) → IsFlying m x → u < (layout_of x).units → u < length x.seats.items
seat_low m x u flying low = rw (seats_long m x flying) low

-- the board at a seat that stands at the unit's place
own_seat : (x : Machine) (u at : ℕ) (s : Seat) (e : Board) → u < length x.seats.items → at ≡ u → s ≡ slice_index_or x.seats.items at s → s.board ≡ board_at x e u
own_seat x u at s e low here is =
    ap (λ (z : Seat). z.board) (is ∙ ap (λ (i : ℕ). slice_index_or x.seats.items i s) here) ∙ sym (get_or-map (λ (z : Seat). z.board) x.seats.items u s e low)

-- it is this unit's
pub seat_unit : (m : FlownMission) (x : Machine) (u at : ℕ) (s : Seat) → IsFlying m x → u < (layout_of x).units → at ≡ u → s ≡ slice_index_or x.seats.items at s →
    s.board.unit ≡ u
seat_unit m x u at s flying low here is =
    let mine : s.board ≡ board_at x s.board u = own_seat x u at s s.board (seat_low m x u flying low) here is in
    ap (λ (b : Board). b.unit) mine ∙ sym (flying.1.drives u s.board low).unit

-- before the step: the unit's board drives on the rack whose unit it is now
pub drives_chosen : (m : FlownMission) (x : Machine) (u : ℕ) (c : Rack) (at : ℕ) (s : Seat) → IsFlying m x → has m.units u ≡ true → IsChosen x.rack u c →
    at ≡ u → s ≡ slice_index_or x.seats.items at s → Drives m s.board (view_of c)
drives_chosen m x u c at s flying there chosen here is =
    let low : u < length x.seats.items = rw (seats_long m x flying) (unit_below m x u flying there) in
    let mine : s.board ≡ board_at x s.board u = own_seat x u at s s.board low here is in
    subst (λ (v : View). Drives m s.board v) (sym (same_view x.rack u c chosen))
    (subst (λ (z : Board). Drives m z (view_at x.rack u)) (sym mine) (flying.1.drives u s.board (unit_below m x u flying there)))

-- what is known after the step of the unit's board
pub record Stepping (m : FlownMission) (x : Machine) (u : ℕ) (c : Rack) (at : ℕ) (s : Seat) (r : Stepped) (d : Rack) (s' : Seat) : Type 0 where
  pub keep : EventsKeepLawful
  pub flying : IsFlying m x
  pub unit : has m.units u ≡ true
  pub chosen : IsChosen x.rack u c
  pub here : at ≡ u
  pub seat : s ≡ slice_index_or x.seats.items at s
  pub drives : Drives m s'.board (view_of d)
  pub steps : Steps m (desk_of s.board) (view_of c) r (desk_of s'.board) (view_of d) (Stands d)
  pub follows : Follows c [] d
  pub left : s'.left ≡ s.left

module _ (m : FlownMission) (x : Machine) (u : ℕ) (c : Rack) (at : ℕ) (t : Seat) (r : Stepped) (d : Rack) (t' : Seat)
    (s : Stepping m x u c at t r d t') (ss : Vec Seat Global) (is : ss.items ≡ slice_set x.seats.items at t') where
  low : u < (layout_of x).units
  low = unit_below m x u s.flying s.unit

  within : u < length (boards_of x)
  within = rw s.flying.1.count low

  here_low : u < length x.seats.items
  here_low = rw (seats_long m x s.flying) low

  -- the boards afterwards
  abbrev boards : List Board
  boards = map (λ z. z.board) ss.items

  items : boards ≡ slice_set (boards_of x) u t'.board
  items = ap (map (λ (z : Seat). z.board)) is ∙ (map-set (λ (z : Seat). z.board) x.seats.items at t' ∙ ap (λ (i : ℕ). slice_set (boards_of x) i t'.board) s.here)

  layout : d.grid.layout ≡ x.rack.grid.layout
  layout = s.follows.layout ∙ s.chosen.layout

  frames : d.grid.frames ≡ x.rack.grid.frames
  frames = s.follows.frames ∙ s.chosen.frames

  ranges : ranges_for d ≡ ranges_for x.rack
  ranges i = ranges_of (layout i) (frames i)

  mine : d.unit ≡ u
  mine = s.follows.unit ∙ s.chosen.unit

  reaches : (w : Strays) → Reaches (ranges_for x.rack) u (core_of x.rack w) (core_of d w)
  reaches w = subst (λ (t : Strays). Reaches (ranges_for x.rack) u (core_of x.rack w) (core_of d t)) (none_more w u)
      (subst (λ (a : Core). Reaches (ranges_for x.rack) u a (core_of d (with_strays w u []))) (same_core x.rack u c s.chosen w)
      (subst (λ (v : ℕ). Reaches (ranges_for x.rack) v (core_of c w) (core_of d (with_strays w v []))) s.chosen.unit
      (subst (λ (n : Ranges). Reaches n c.unit (core_of c w) (core_of d (with_strays w c.unit []))) (same_ranges x.rack u c s.chosen)
      (s.follows.reaches w))))

  -- the own board after the step, and another's
  own_board : (e : Board) → slice_index_or boards u e ≡ t'.board
  own_board e = ap (λ (z : List Board). slice_index_or z u e) items ∙ get_or-set_same (boards_of x) u t'.board e within

  other_board : (p : ℕ) (e : Board) → p ≢ u → slice_index_or boards p e ≡ board_at x e p
  other_board p e ne = ap (λ (z : List Board). slice_index_or z p e) items ∙ get_or-set_other (boards_of x) u p t'.board e ne

  -- after the step the machine flies the mission with the strays with which it flew before
  pub step_flies : (w : Strays) → Flies m w x → Flies m w (record { rack = d; seats = ss })
  step_flies w flies = record {
    units = flies.units ∙ ap (λ (l : Layout). first_units l.units) (sym layout);
    lawful = subst (λ (n : Ranges). Lawful n (core_of d w)) (sym ranges)
        (reached_lawful s.keep (ranges_for x.rack) u (core_of x.rack w) (core_of d w) (reaches w) flies.lawful);
    count = ap length items ∙ (length-set (boards_of x) u t'.board ∙ (flies.count ∙ ap (λ (l : Layout). l.units) (sym layout)));
    frames = frames ∙ flies.frames;
    drives = λ p e hp. dite (ℕ_discrete p u)
        (λ z. subst (λ (n : ℕ). Drives m (slice_index_or boards n e) (view_at d n)) (mine ∙ sym z)
        (subst (λ (y : Board). Drives m y (view_of d)) (sym (ap (λ (n : ℕ). slice_index_or boards n e) mine ∙ own_board e)) s.drives))
        (λ ne. subst (λ (y : Board). Drives m y (view_at d p)) (sym (other_board p e ne))
        (drives_by m (board_at x e p) (view_at x.rack p) (view_at d p) refl ranges (others_stay (ranges_for x.rack) u (core_of x.rack no_strays)
        (core_of d no_strays) (reaches no_strays) p ne)
        (flies.drives p e (subst (λ (l : Layout). p < l.units) layout hp))));
  }

  -- what the unit's board did is a step of this unit of the machine, with the same answer
  pub step_stepped : StepsUnit m u x r (record { rack = d; seats = ss })
  step_stepped = record {
    layout = layout;
    reaches = reaches;
    others = other_board;
    outcome = λ e.
        let was : t.board ≡ board_at x e u = own_seat x u at t e here_low s.here s.seat in
        subst (λ (y : Board). Steps m (desk_of y) (view_at x.rack u) r (desk_of (slice_index_or boards u e)) (view_at d u) (Stands d)) was
        (subst (λ (y : Board). Steps m (desk_of t.board) (view_at x.rack u) r (desk_of y) (view_at d u) (Stands d)) (sym (own_board e))
        (subst (λ (n : ℕ). Steps m (desk_of t.board) (view_at x.rack u) r (desk_of t'.board) (view_at d n) (Stands d)) mine
        (subst (λ (v : View). Steps m (desk_of t.board) v r (desk_of t'.board) (view_of d) (Stands d)) (same_view x.rack u c s.chosen) s.steps)));
  }

-- after a step as many calls are left of each rogue as before
pub step_lefts : (m : FlownMission) (x : Machine) (u : ℕ) (c : Rack) (at : ℕ) (t : Seat) (r : Stepped) (d : Rack) (t' : Seat) → Stepping m x u c at t r d t' →
    (ss : List Seat) → ss ≡ slice_set x.seats.items at t' → (a : MissionData) → map (calls_left a) ss ≡ lefts a x
step_lefts m x u c at t r d t' s ss is a = ap (map (calls_left a)) is ∙ map-set_same (calls_left a) x.seats.items at t' t
    ((λ i. calls_by (storm_at a (same_unit i)) (s.left i)) ∙ ap (calls_left a) s.seat)
  where
    same_unit : t'.board.unit ≡ t.board.unit
    same_unit = sym s.drives.unit ∙ (s.follows.unit ∙ (drives_chosen m x u c at t s.flying s.unit s.chosen s.here s.seat).unit)
