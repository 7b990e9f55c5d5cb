use Rattle.std.proofs.Common.{◌<◌, ◌≢◌, slice_index, sym, ap, arith}
use Rattle.std.proofs.lemmas.Bool.{eqb-false}
use Rattle.sift_base.specs.declared.slots.Layout.{Layout}
use Rattle.sift_mission.specs.Parts.{data_of, flown_of}
use Rattle.sift_core.specs.Courses.{lefts}
use Rattle.sift_core.specs.Machines.{layout_of}
use Rattle.sift_core.proofs.MachineSteps.{unit_below}
use Rattle.sift_core.proofs.Turning.{unit_there}
use Rattle.sift_core.proofs.machine.Machine.first_left.Goals as goal

pub returns-then-not-is_spent-clause-found : goal.returns-then-not-is_spent-clause-found
returns-then-not-is_spent-clause-found c =
    let low : c.numbered-unit.result < (layout_of c.args.self.now).units =
    (let units = ap (λ (l : Layout). l.units) c.layout-number-end.ensures in omega (arith, c.numbered-unit.ensures, c.loop-number-test.true)) in
    let some : slice_index (lefts (data_of c.args.mission.now) c.args.self.now) c.numbered-unit.result ≢ 0 = eqb-false (slice_index (lefts (data_of c.args.mission.now) c.args.self.now)
    c.numbered-unit.result) 0 (sym c.if-not-is_spent.ensures) in
    record {
      unit = unit_there (flown_of c.args.mission.now) c.args.self.now c.numbered-unit.result c.requires.flies low;
      some = omega arith;
      lowest = λ p under. c.loop-number.invariant.1 p (omega (arith, c.numbered-unit.ensures, under));
    }

pub returns-clause-none : goal.returns-clause-none
returns-clause-none c = λ u there.
    let low = unit_below (flown_of c.args.mission.now) c.args.self.now u c.requires.flies there in
    let units = ap (λ (l : Layout). l.units) c.layout-number-end.ensures in
    c.loop-number.invariant.1 u (omega (arith, low, c.loop-number-test.false))

-- the unit is one of the machine
pub is_spent-requires-clause-unit : goal.is_spent-requires-clause-unit
is_spent-requires-clause-unit c =
    let units = ap (λ (l : Layout). l.units) c.layout-number-end.ensures in omega (arith, c.numbered-unit.ensures, c.loop-number-test.true)
