-- A turn of its seat is a step of the unit at it.
use Rattle.std.proofs.Common.{List, sym, subst}
use Rattle.sift_buffer.specs.Conduct.{Stray}
use Rattle.sift_mission.specs.Parts.{data_of}
use Rattle.sift_mission.specs.declared.mission.MissionParts.{MissionParts}
use Rattle.sift_rogue.specs.Storms.{Call}
use Rattle.sift_seat.specs.Seats.{place, Came as CameAt, Comes as ComesAt}
use Rattle.sift_seat.specs.declared.seat.Seat.{Seat}
use Rattle.sift_threads.specs.Manned.{place_of, Comes}
use Rattle.sift_threads.specs.declared.seating.Manned.{Manned}

-- what came of a seat by its turn came of the unit at it
pub seat_gone : {T R : Type 0} (follows : T → List Stray → T → Type 0) (allows : R → Call → R → Type 0) (x : Manned T R) (s : Seat) (p : T) (r : R) →
    ComesAt follows allows (data_of x.mission.now) (place_of x) (place s p r) → Comes follows allows x (record x { seat = s; port = p; rogue = r })
seat_gone follows allows x s p r comes w came = record {
  mission = came.mission;
  seat = subst (λ (m : MissionParts). CameAt follows allows (data_of m) (place_of w) (place s p r)) came.mission
      (comes (place_of w) (subst (λ (m : MissionParts). CameAt follows allows (data_of m) (place_of w) (place_of x)) (sym came.mission) came.seat));
}
