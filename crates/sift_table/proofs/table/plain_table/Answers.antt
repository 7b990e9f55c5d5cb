use Rattle.std.proofs.Common.{refl, arith}
use Rattle.std.proofs.lemmas.List.{map-append}
use Rattle.std.proofs.lemmas.List.FromFn.{map-range_with_len_more}
use Rattle.std.specs.List.{range_with_len}
use Rattle.sift_table.proofs.table.plain_table.Goals as goal

pub loop-preserved : goal.loop-preserved
loop-preserved c =
    let at = c.loop.counter in
    let positions = range_with_len 0 c.args.size in
    rw (c.in_ok-push.ensures.items, map-append, map-range_with_len_more (λ t. positions) 0 at at (omega arith), c.loop.invariant, c.in_ok-all_positions.ensures) refl
