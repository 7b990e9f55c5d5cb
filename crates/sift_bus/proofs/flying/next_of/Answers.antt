use Rattle.std.proofs.Common.{refl, arith}
use Rattle.std.proofs.lemmas.Grind.{common_steps}
use Rattle.sift_bus.proofs.Turning.{next_ends}
use Rattle.sift_bus.proofs.flying.next_of.Goals as goal

pub loop-number-init : goal.loop-number-init
loop-number-init g c = record { found = refl; none_less = λ v d low. absurd (omega arith) }

pub loop-number-preserved : goal.loop-number-preserved
loop-number-preserved g c = grind (arith, common_steps)

pub returns-clause-found : goal.returns-clause-found
returns-clause-found g c = (next_ends (λ flyer. (g.P.Look.view flyer.port).conduct.progress) c.args.end c.args.flyers.now c.loop-number.number c.loop-number.below
    c.loop-number.next c.loop-number.invariant (let a = c.loop-number.auto.number-end in let b = c.loop-number-test.false in omega arith)).0

pub returns-clause-none : goal.returns-clause-none
returns-clause-none g c = (next_ends (λ flyer. (g.P.Look.view flyer.port).conduct.progress) c.args.end c.args.flyers.now c.loop-number.number c.loop-number.below
    c.loop-number.next c.loop-number.invariant (let a = c.loop-number.auto.number-end in let b = c.loop-number-test.false in omega arith)).1
