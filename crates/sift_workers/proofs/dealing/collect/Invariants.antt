use Rattle.std.proofs.Common.{◌≡◌, ◌≤◌, List, ◌++◌, length, vec_capacity}
use Rattle.sift_workers.specs.Hands.{IsDealt}
use Rattle.sift_workers.proofs.dealing.collect.Given as goal

-- what is collected are the first pilots, whatever was dealt
abbrev pub invariant-loop-place : goal.invariant-loop-place
invariant-loop-place g l = record {
  within : l.place ≤ l.size;
  count : length l.all.items ≡ l.place;
  room : l.size ≤ vec_capacity l.all;
  rest : (xs : List g.row.P.Denot) → length xs ≡ l.size → IsDealt l.workers l.threads 0 xs l.fn.hands.items →
      (rest : List g.row.P.Denot) × (xs ≡ l.all.items ++ rest) × IsDealt l.workers l.threads l.place rest l.hands.items;
}
