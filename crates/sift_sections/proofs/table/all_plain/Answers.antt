use Rattle.std.proofs.Common.{◌≡◌, ◌-◌, ◌+◌, refl, arith}
use Rattle.std.proofs.lemmas.List.{map-append}
use Rattle.std.proofs.lemmas.List.FromFn.{map-range_with_len_more}
use Rattle.sift_table.specs.Schedule.{plain_of}
use Rattle.sift_sections.proofs.table.all_plain.Goals as goal

pub loop-size-preserved : goal.loop-size-preserved
loop-size-preserved c =
    let size = c.loop-size.size in
    let next : size + 1 - 4 ≡ size - 4 + 1 = omega (arith, c.loop-size.auto.size) in
    let more = map-range_with_len_more (λ s. plain_of s c.args.period c.args.tasks) 4 (size - 4) size (omega (arith, c.loop-size.auto.size)) in
    rw (c.in_ok-push.ensures.items, map-append, next, more, c.loop-size.invariant, c.in_ok-plain_table.ensures) refl
