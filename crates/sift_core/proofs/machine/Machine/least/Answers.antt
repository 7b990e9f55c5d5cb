use Rattle.std.proofs.Common.{ap, arith}
use Rattle.std.proofs.lemmas.Grind.{common_steps}
use Rattle.sift_base.specs.declared.slots.Layout.{Layout}
use Rattle.sift_mission.specs.Parts.{flown_of}
use Rattle.sift_core.proofs.Least.{least_ends}
use Rattle.sift_core.proofs.machine.Machine.least.Goals as goal

pub returns-clause-found : goal.returns-clause-found
returns-clause-found c =
    (least_ends (flown_of c.args.mission.now) c.args.self.now c.loop-number.number c.loop-number.below c.loop-number.least c.requires.flies
    (let within = c.loop-number.invariant.within in let units = ap (λ (l : Layout). l.units) c.layout-number-end.ensures in
    omega (arith, c.loop-number-test.false)) c.loop-number.invariant.least).0

pub returns-clause-none : goal.returns-clause-none
returns-clause-none c =
    (least_ends (flown_of c.args.mission.now) c.args.self.now c.loop-number.number c.loop-number.below c.loop-number.least c.requires.flies
    (let within = c.loop-number.invariant.within in let units = ap (λ (l : Layout). l.units) c.layout-number-end.ensures in
    omega (arith, c.loop-number-test.false)) c.loop-number.invariant.least).1

-- the core is lawful
pub number_of-progress-requires-clause-lawful : goal.number_of-progress-requires-clause-lawful
number_of-progress-requires-clause-lawful c = (c.requires.flies.0, c.requires.flies.1.lawful)

-- a unit more is the least where its progress is less, and else the least stays
pub loop-number-preserved : goal.loop-number-preserved
loop-number-preserved c = grind (arith, common_steps)
