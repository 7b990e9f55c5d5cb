use Rattle.std.proofs.Common.{◌<◌, ◌∙◌, ap, sym, slice_get, arith, length}
use Rattle.sift_base.specs.Units.{members}
use Rattle.sift_config.specs.laws.Lists.{next_members, has_front}
use Rattle.sift_config.proofs.config.Config.position_of.Goals as goal

pub loop-position-preserved : goal.loop-position-preserved
loop-position-preserved c =
    let us = c.args.self.now in
    let i = c.loop-position.position in
    let t = c.first-member.result in
    let within : i < length us = omega (arith, c.loop-position-test.true, c.len-position-end.ensures.length) in
    let first = ap (λ xs. slice_get xs 0) (sym c.loop-position.invariant.0) ∙ c.first-member.ensures in (
      ap members c.without-rest.ensures ∙ next_members c.loop-position.rest us i t within c.loop-position.invariant.0 c.first-member.ensures,
      has_front us c.args.u i t first ∙ rw (c.loop-position.invariant.1) (sym c.if-eq.ensures),
    )
