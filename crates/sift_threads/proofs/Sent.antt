-- Units at their seats may be sent to another thread.
use denote.Param.Send.{IsSend, IsSync, sendable}
use denote.Param.SendFields.{declared_send}
use denote.RattleType.{RattleType}
use denote.Ref.{NamedLft}
use Rattle.std.proofs.Crossing.{crosses}
use Rattle.sift_mission.specs.contracts.mission.Mission as Mission
use Rattle.sift_seat.specs.contracts.seat.Seat as Seat
use Rattle.sift_seat.proofs.seat.Seat.TheSendSync as seat
use Rattle.sift_threads.specs.contracts.seating.Manned as Manned

-- a seat
pub seat_send : IsSend Seat.the_row
seat_send = seat.the_send

-- a unit at its seat may be sent where its mission may be lent, and its port and its rogue sent
pub manned_send : IsSync Mission.the_row → (l : NamedLft) (T R : RattleType) → IsSend T → IsSend R → IsSend (Manned.the_row l T R)
manned_send mission l T R port rogue = declared_send (Manned.the_type l T R) (
  search (sendable, crosses, mission) depth 40 fits 20000,
  (
    search (sendable, crosses) depth 40 fits 20000,
    (
      search (sendable, crosses, seat_send) depth 40 fits 20000,
      (search (sendable, crosses, port) depth 40 fits 20000, (search (sendable, crosses, rogue) depth 40 fits 20000, tt)),
    ),
  ),
)
