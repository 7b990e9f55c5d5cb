use Rattle.std.proofs.Common.{◌≡◌, ◌≤◌, [], All, vec_len, vec_capacity}
use Rattle.sift_workers.proofs.dealing.empty_hands.Given as goal

abbrev pub invariant-loop : goal.invariant-loop
invariant-loop g l = record {
  within : l.counter ≤ l.count;
  count : vec_len l.hands ≡ l.counter;
  room : l.count ≤ vec_capacity l.hands;
  empty : All (λ hand. hand.items ≡ []) l.hands.items;
}
