use Rattle.std.proofs.Common.{arith}
use Rattle.std.proofs.lemmas.List.{replicate-append-replicate}
use Rattle.std.specs.Prelude.{pos}
use Rattle.sift_sections.proofs.clock.zeros.Goals as goal

-- one more
pub loop-preserved : goal.loop-preserved
loop-preserved c = (
  rw (c.push.ensures.items, c.loop.invariant.0) (replicate-append-replicate c.loop.counter 1 (pos 0)),
  omega (arith, c.push.ensures.len, c.loop.invariant.1),
)
