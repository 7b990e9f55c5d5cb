use Rattle.std.proofs.Common.{◌≡◌, map}
use Rattle.std.specs.List.{range_with_len}
use Rattle.sift_table.proofs.table.plain_table.Given as goal

-- each task so far has all positions
abbrev pub invariant-loop : goal.invariant-loop
invariant-loop l = map (λ row. row.items) l.at.items ≡ map (λ t. range_with_len 0 l.size) (range_with_len 0 l.counter)
