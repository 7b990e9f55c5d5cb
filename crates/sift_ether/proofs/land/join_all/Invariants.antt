use Rattle.std.proofs.Common.{◌≡◌, ◌≤◌, ◌++◌, [], map, length, vec_len, vec_capacity}
use Rattle.std.specs.List.{All}
use Rattle.sift_buffer.specs.Ledgers.{HasItsWords}
use Rattle.sift_ether.specs.Tokens.{chronicle_in}
use Rattle.sift_ether.proofs.land.join_all.Given as goal

-- the head seat stands for the units of the tokens so far, and there are their journals
abbrev pub invariant-loop-token : goal.invariant-loop-token
invariant-loop-token l = record {
  table : l.head.table_id ≡ l.fn.words.table_id;
  head : l.head.me ≡ (map chronicle_in l.yielded, []);
  journals : l.journals.items ≡ map (λ t. t.acts.pages) l.yielded;
  told : All (λ t. HasItsWords t.acts) l.yielded;
  all : l.yielded ++ l.token-iterator.rest.items ≡ l.fn.tokens.items;
  len : vec_len l.journals ≡ length l.yielded;
  room : vec_len l.fn.tokens ≤ vec_capacity l.journals;
}
