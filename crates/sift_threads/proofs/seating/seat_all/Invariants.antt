use Rattle.std.proofs.Common.{◌≡◌, ◌+◌, ◌≤◌, drop, length, vec_capacity}
use Rattle.std.specs.Vec.Iter.{into_iter_items, into_iter_len}
use Rattle.sift_threads.specs.Crews.{AreSeated}
use Rattle.sift_threads.proofs.seating.seat_all.Given as goal

-- the units below the number have their seats, and what belongs to the others is left
abbrev pub invariant-loop-number : goal.invariant-loop-number
invariant-loop-number g l = record {
  within : l.number ≤ l.fn.mission.units;
  room : l.fn.mission.units ≤ vec_capacity l.places;
  tokens : into_iter_items l.tokens ≡ drop l.number l.fn.tokens.items;
  tokens_left : into_iter_len l.tokens + l.number ≡ length l.fn.tokens.items;
  seats : into_iter_items l.seats ≡ drop l.number l.fn.seats.items;
  seats_left : into_iter_len l.seats + l.number ≡ length l.fn.seats.items;
  rogues : into_iter_items l.rogues ≡ drop l.number l.fn.rogues.items;
  rogues_left : into_iter_len l.rogues + l.number ≡ length l.fn.rogues.items;
  seated : AreSeated l.fn.mission l.fn.ether l.fn.tokens.items l.fn.seats.items l.fn.rogues.items l.number l.places.items;
}
