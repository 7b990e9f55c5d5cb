use Rattle.std.proofs.Common.{◌≡◌, ◌+◌, ◌≤◌, ◌++◌, length, vec_len, vec_capacity}
use Rattle.std.specs.Vec.Iter.{into_iter_items}
use Rattle.sift_threads.proofs.seating.put_behind.Given as goal

abbrev pub invariant-loop-rogue : goal.invariant-loop-rogue
invariant-loop-rogue g l = record {
  all : l.all.items ++ into_iter_items l.rogue-iterator ≡ l.fn.rogues.items ++ into_iter_items l.fn.beyond;
  room : vec_len l.all + length (into_iter_items l.rogue-iterator) ≤ vec_capacity l.all;
}
