use Rattle.std.proofs.Common.{◌<◌, ◌∙◌, length, arith}
use mathlib.Core.Logic.{dite}
use native.Mathlib.Decide.{ℕ_discrete}
use Rattle.std.proofs.lemmas.List.{get_or-set_other, get_or-set_same, length-set}
use Rattle.sift_mission.proofs.crews.all_roles.Goals as goal

-- one slot more
pub loop-slot-preserved : goal.loop-slot-preserved
loop-slot-preserved c =
    let i = c.loop-slot.slot in
    let size = c.loop-slot.invariant.0 in
    let low = c.loop-slot-test.true in
    let inside : i < length c.loop-slot.roles =
    omega (
      arith,
      size,
      low,
      c.count-slot-end.ensures,
      c.requires.knows.fit.layout.units,
      c.requires.knows.fit.layout.sensors,
      c.requires.knows.fit.layout.words,
      c.requires.knows.fit.limits.few_units,
      c.requires.knows.fit.limits.few_sensors,
      c.requires.knows.fit.program.few_words,
    ) in (
      length-set c.loop-slot.roles i c.roles_of.result ∙ size,
      (λ config j roles below. dite (ℕ_discrete j i)
          (λ same. rw (same, get_or-set_same c.loop-slot.roles i c.roles_of.result roles inside) (c.roles_of.ensures config))
          (λ other. rw (get_or-set_other c.loop-slot.roles i j c.roles_of.result roles other) (c.loop-slot.invariant.1 config j roles (omega arith)))),
    )

-- all slots have theirs
pub returns : goal.returns
returns c = λ config i roles below. c.loop-slot.invariant.1 config i roles (omega (arith, below, c.loop-slot-test.false, c.count-slot-end.ensures))
