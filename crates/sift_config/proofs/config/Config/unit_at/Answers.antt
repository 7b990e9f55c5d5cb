use Rattle.std.proofs.Common.{◌≡◌, ◌<◌, ◌∙◌, ap, sym, length, slice_get, arith, refl}
use Rattle.sift_base.specs.Units.{members}
use Rattle.sift_config.specs.laws.Lists.{next_members, get-drop, number_at}
use Rattle.sift_config.proofs.config.Config.unit_at.Goals as goal

-- each unit stands at its number
pub returns-in-Some : goal.returns-in-Some
returns-in-Some c =
    let us = c.args.self.now in
    ap (λ vs. slice_get vs c.args.i) (c.if-is_unbroken.ensures.first refl) ∙ number_at 0 (length us) c.args.i c.in-Some.unit c.requires (omega (arith, c.in-Some.ensures.found.0))

pub loop-preserved : goal.loop-preserved
loop-preserved c =
    let within : c.loop.counter < length c.args.self.now = omega (arith, c.loop-test.true, c.requires) in
    ap members c.without-rest.ensures ∙ next_members c.loop.rest c.args.self.now c.loop.counter c.first.result within c.loop.invariant c.first.ensures

pub returns : goal.returns
returns c =
    let end : c.loop.counter ≡ c.args.i = omega (arith, c.loop-test.false, c.loop.auto.counter-end) in
    rw (← end) (sym (get-drop c.args.self.now c.loop.counter) ∙ ap (λ us. slice_get us 0) (sym c.loop.invariant) ∙ c.first-2.ensures)
