-- A machine before its first step.
use Rattle.std.proofs.Common.{◌≡◌, ℕ, ◌<◌, List, [], ◌∷◌, length, refl, sym, ap, ◌∙◌, subst, arith}
use Rattle.std.proofs.lemmas.List.{get_or-map, length-map}
use Rattle.sift_base.specs.declared.slots.Layout.{Layout}
use Rattle.sift_config.specs.Config.{first_units}
use Rattle.sift_buffer.specs.Ranges.{Ranges}
use Rattle.sift_buffer.specs.Conduct.{Conduct}
use Rattle.sift_buffer.specs.Conduct.{fresh as fresh_conduct}
use Rattle.sift_buffer.specs.Core.{Core}
use Rattle.sift_buffer.specs.Tables.{ranges_of}
use Rattle.sift_buffer.specs.Lawful.{Lawful}
use Rattle.sift_buffer.specs.Laws.{FreshIsLawful}
use Rattle.sift_buffer.specs.Racks.{IsNewRack, ranges_for, core_of, view_at}
use Rattle.sift_config.specs.laws.FirstUnits.{unit_low, low_unit}
use Rattle.sift_mission.specs.Data.{MissionData}
use Rattle.sift_mission.specs.Flown.{flown}
use Rattle.sift_mission.specs.PartsFit.{PartsFit}
use Rattle.sift_mission.specs.laws.Configs.{units_fit}
use Rattle.sift_flight.specs.Flight.{no_strays}
use Rattle.sift_unit.specs.Keeping.{IsFresh}
use Rattle.sift_unit.specs.Boards.{IsNewBoard, NewBoardLaw, IsPortOf}
use Rattle.sift_unit.specs.Desk.{Desk}
use Rattle.sift_unit.specs.declared.board.Board.{Board}
use Rattle.sift_seat.specs.Seats.{AreNewSeats}
use Rattle.sift_seat.specs.Storms.{calls_by, calls_left, storm_at}
use Rattle.sift_seat.specs.declared.seat.Seat.{Seat}
use Rattle.sift_core.specs.Courses.{AreAllLeft, lefts}
use Rattle.sift_core.specs.Machines.{Flies, IsNewMachine, board_at}
use Rattle.sift_core.specs.declared.machine.Machine.{Machine}

-- a seat of a list that has one
seat_of : (xs : List Seat) (u : ℕ) → u < length xs → Seat
seat_of [] u low = absurd (omega arith)
seat_of (x ∷ xs) u low = x

-- the machine flies
pub new_flies : (d : MissionData) (x : Machine) → PartsFit d → FreshIsLawful → NewBoardLaw → IsNewRack x.rack d.layout d.frames →
    AreNewSeats (flown d) d.units x.seats.items → Flies (flown d) no_strays x
new_flies d x fit fresh may rack seats = record {
  units = units_fit d fit ∙ ap (λ (l : Layout). first_units l.units) (sym rack.layout_is);
  lawful = subst (λ (r : Ranges). Lawful r (core_of x.rack no_strays)) (sym ranges) (subst (λ (c : Core). Lawful wanted c) (sym rack.core) (fresh wanted));
  count = length-map x.seats.items (λ (s : Seat). s.board) ∙ (seats.count ∙ sym (ap (λ (l : Layout). l.units) rack.layout_is ∙ fit.layout.units));
  frames = rack.frames_are;
  drives = λ u e hu.
      let low : u < d.units = subst (λ (n : ℕ). u < n) (ap (λ (l : Layout). l.units) rack.layout_is ∙ fit.layout.units) hu in
      let here : u < length x.seats.items = rw seats.count low in
      let s : Seat = seat_of x.seats.items u here in
      may (flown d) u (board_at x e u) (view_at x.rack u) (low_unit d.units u low)
      (subst (λ (b : Board). IsNewBoard (flown d) u b) (sym (get_or-map (λ (s : Seat). s.board) x.seats.items u s e here)) (seats.new u s low).board) refl port
      (subst (λ (c : Conduct). IsFresh c) (sym (ap (λ (c : Core). c.of u) rack.core)) untouched);
}
  where
    wanted : Ranges
    wanted = ranges_of d.layout d.frames

    ranges : ranges_for x.rack ≡ wanted
    ranges i = ranges_of (rack.layout_is i) (rack.frames_are i)

    port : IsPortOf (flown d) (ranges_for x.rack)
    port = subst (λ (r : Ranges). IsPortOf (flown d) r) (sym ranges) (record {
      units = λ u there. rw fit.layout.units (unit_low d.units u there);
      slots = omega arith;
      frames = omega arith;
    })

    untouched : IsFresh fresh_conduct
    untouched = record { progress = refl; left = refl; said = λ f k q. refl; heard = λ f k p. refl }

-- and it is new
pub is_new : (d : MissionData) (x : Machine) → PartsFit d → IsNewRack x.rack d.layout d.frames → AreNewSeats (flown d) d.units x.seats.items →
    IsNewMachine (flown d) d.layout x
is_new d x fit rack seats = record {
  rack = rack;
  seats = subst (λ (n : ℕ). AreNewSeats (flown d) n x.seats.items) (sym fit.layout.units) seats;
}

-- all calls of its storms are left
pub new_lefts : (d : MissionData) (x : Machine) → AreNewSeats (flown d) d.units x.seats.items → AreAllLeft d (lefts d x)
new_lefts d x seats = record {
  long = length-map x.seats.items (calls_left d) ∙ seats.count;
  each = λ u low.
      let here : u < length x.seats.items = rw seats.count low in
      let s : Seat = seat_of x.seats.items u here in
      let new = seats.new u s low in
      get_or-map (calls_left d) x.seats.items u s 0 here ∙ (λ i. calls_by (storm_at d (ap (λ (k : Desk). k.unit) new.board.desk i)) (new.left i));
}
