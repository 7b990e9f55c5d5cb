use Rattle.std.proofs.Common.{◌<◌, ◌∙◌, length, arith}
use mathlib.Core.Logic.{dite}
use native.Mathlib.Decide.{ℕ_discrete}
use Rattle.std.proofs.lemmas.List.{get_or-set_other, get_or-set_same, length-set}
use Rattle.sift_mission.proofs.crews.crews_by.Goals as goal

-- one task more
pub loop-t-preserved : goal.loop-t-preserved
loop-t-preserved c =
    let t = c.loop-t.t in
    let size = c.loop-t.invariant.0 in
    let low = c.loop-t-test.true in
    let few = c.requires.few in
    let inside : t < length c.loop-t.crews = omega arith in (
      length-set c.loop-t.crews t c.crew_by.result ∙ size,
      (λ j crew below. dite (ℕ_discrete j t)
          (λ same. rw (same, get_or-set_same c.loop-t.crews t c.crew_by.result crew inside) c.crew_by.ensures)
          (λ other. rw (get_or-set_other c.loop-t.crews t j c.crew_by.result crew other) (c.loop-t.invariant.1 j crew (omega arith)))),
    )
