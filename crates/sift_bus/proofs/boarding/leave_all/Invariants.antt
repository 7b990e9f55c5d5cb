use Rattle.std.proofs.Common.{◌≡◌, ◌≤◌, ◌++◌, length, map, vec_len, vec_capacity}
use Rattle.std.specs.List.{AllZip}
use Rattle.sift_ether.specs.Seating.{IsTokenBack}
use Rattle.sift_bus.proofs.boarding.leave_all.Given as goal

-- what the units so far have left behind, and room for what the others leave
abbrev pub invariant-loop-flyer : goal.invariant-loop-flyer
invariant-loop-flyer g l = record {
  tokens : AllZip (λ flyer token. IsTokenBack flyer.port.port token) l.yielded l.tokens.items;
  accounts : l.accounts.items ≡ map (λ flyer. flyer.seat.board.accounts) l.yielded;
  logs : l.logs.items ≡ map (λ flyer. flyer.port.log) l.yielded;
  all : l.yielded ++ l.flyer-iterator.rest.items ≡ l.fn.flyers.items;
  tokens_room : (vec_len l.tokens ≡ length l.yielded) × (vec_len l.fn.flyers ≤ vec_capacity l.tokens);
  accounts_room : (vec_len l.accounts ≡ length l.yielded) × (vec_len l.fn.flyers ≤ vec_capacity l.accounts);
  logs_room : (vec_len l.logs ≡ length l.yielded) × (vec_len l.fn.flyers ≤ vec_capacity l.logs);
}
