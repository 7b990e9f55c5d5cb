use Rattle.std.proofs.Common.{◌≡◌, ◌+◌, ◌≤◌, ◌++◌, length, vec_len, vec_capacity}
use Rattle.std.specs.Vec.Iter.{into_iter_items}
use Rattle.sift_threads.specs.Crews.{AreLeftOf}
use Rattle.sift_threads.proofs.seating.leave_all.Given as goal

-- what is left of the seats so far
abbrev pub invariant-loop-place : goal.invariant-loop-place
invariant-loop-place g l = record {
  left : AreLeftOf l.yielded l.tokens.items l.accounts.items l.rogues.items;
  all : l.yielded ++ l.place-iterator.rest.items ≡ l.fn.home.items;
  tokens : (vec_len l.tokens ≡ length l.yielded) × (vec_len l.fn.home ≤ vec_capacity l.tokens);
  accounts : (vec_len l.accounts ≡ length l.yielded) × (vec_len l.fn.home ≤ vec_capacity l.accounts);
  rogues : (vec_len l.rogues ≡ length l.yielded) × (vec_len l.fn.home + length (into_iter_items l.fn.beyond) ≤ vec_capacity l.rogues);
}
