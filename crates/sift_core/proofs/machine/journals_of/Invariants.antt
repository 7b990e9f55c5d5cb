use Rattle.std.proofs.Common.{◌≡◌, ◌≤◌, ◌++◌, map, length, vec_len, vec_capacity}
use Rattle.std.specs.List.{All}
use Rattle.sift_buffer.specs.Ledgers.{HasItsWords}
use Rattle.sift_core.proofs.machine.journals_of.Given as goal

-- the journals of the acts so far
abbrev pub invariant-loop-each : goal.invariant-loop-each
invariant-loop-each l = record {
  journals : l.journals.items ≡ map (λ ledger. ledger.pages) l.yielded;
  words : All HasItsWords l.yielded;
  all : l.yielded ++ l.each-iterator.rest.items ≡ l.fn.acts.items;
  len : vec_len l.journals ≡ length l.yielded;
  room : vec_len l.fn.acts ≤ vec_capacity l.journals;
}
