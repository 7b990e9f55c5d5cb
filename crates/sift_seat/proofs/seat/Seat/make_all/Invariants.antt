use Rattle.std.proofs.Common.{◌≤◌, vec_capacity}
use Rattle.sift_mission.specs.Parts.{flown_of}
use Rattle.sift_seat.specs.Seats.{AreNewSeats}
use Rattle.sift_seat.proofs.seat.Seat.make_all.Given as goal

-- the seats of the units below the number
abbrev pub invariant-loop-number : goal.invariant-loop-number
invariant-loop-number l = record {
  within : l.number ≤ l.units;
  room : l.units ≤ vec_capacity l.seats;
  seats : AreNewSeats (flown_of l.mission) l.number l.seats.items;
}
