use Rattle.std.proofs.Common.{◌≡◌, ◌≤◌, ◌++◌, map, length, vec_len, vec_capacity}
use Rattle.sift_conduct.specs.Conduct.{account_of}
use Rattle.sift_unit.specs.Boards.{desk_of}
use Rattle.sift_core.proofs.machine.accounts_of.Given as goal

-- the accounts of the units so far
abbrev pub invariant-loop-seat : goal.invariant-loop-seat
invariant-loop-seat l = record {
  accounts : map (λ accounts. map account_of accounts.items) l.accounts.items ≡ map (λ board. (desk_of board).accounts) (map (λ seat. seat.board) l.yielded);
  all : l.yielded ++ l.seat-iterator.rest.items ≡ l.fn.seats.items;
  len : vec_len l.accounts ≡ length l.yielded;
  room : vec_len l.fn.seats ≤ vec_capacity l.accounts;
}
