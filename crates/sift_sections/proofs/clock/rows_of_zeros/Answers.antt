use Rattle.std.proofs.Common.{replicate, arith}
use Rattle.std.proofs.lemmas.List.{map-append, replicate-append-replicate}
use Rattle.std.specs.Prelude.{pos}
use Rattle.sift_sections.proofs.clock.rows_of_zeros.Goals as goal

-- one row more
pub loop-preserved : goal.loop-preserved
loop-preserved c = (
  rw (c.push.ensures.items, map-append, c.loop.invariant.0, c.zeros.ensures) (replicate-append-replicate c.loop.counter 1 (replicate c.args.units (pos 0))),
  omega (arith, c.push.ensures.len, c.loop.invariant.1),
)
