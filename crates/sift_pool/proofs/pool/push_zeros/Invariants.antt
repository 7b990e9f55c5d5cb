use Rattle.std.proofs.Common.{◌≡◌, ◌+◌, ◌++◌, replicate, vec_capacity, vec_len}
use Rattle.sift_pool.proofs.pool.push_zeros.Given as goal

abbrev pub invariant-loop : goal.invariant-loop
invariant-loop l =
    (l.words.items ≡ l.initial.words.items ++ replicate l.counter 0) × (vec_len l.words ≡ vec_len l.initial.words + l.counter) × (vec_capacity l.words ≡ vec_capacity l.initial.words)
