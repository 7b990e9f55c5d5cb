use Rattle.std.proofs.Common.{◌<◌, ◌∙◌, length, arith}
use mathlib.Core.Logic.{dite}
use native.Mathlib.Decide.{ℕ_discrete}
use Rattle.std.proofs.lemmas.List.{get_or-set_other, get_or-set_same, length-set}
use Rattle.sift_mission.proofs.crews.all_crews.Goals as goal

-- one byte more
pub loop-bits-preserved : goal.loop-bits-preserved
loop-bits-preserved c =
    let i = c.loop-bits.bits in
    let size = c.loop-bits.invariant.0 in
    let low = c.loop-bits-test.true in
    let inside : i < length c.loop-bits.rows = omega arith in (
      length-set c.loop-bits.rows i c.crews_of.result ∙ size,
      (λ j row below. dite (ℕ_discrete j i)
          (λ same. rw (same, get_or-set_same c.loop-bits.rows i c.crews_of.result row inside) c.crews_of.ensures)
          (λ other. rw (get_or-set_other c.loop-bits.rows i j c.crews_of.result row other) (c.loop-bits.invariant.1 j row (omega arith)))),
    )
