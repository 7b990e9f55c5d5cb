use Rattle.std.proofs.Common.{◌<◌, slice_index, sym, ap, arith}
use Rattle.std.proofs.lemmas.Bool.{eqb-false}
use Rattle.sift_base.specs.declared.slots.Layout.{Layout}
use Rattle.sift_mission.specs.Parts.{data_of, flown_of}
use Rattle.sift_core.specs.Courses.{lefts}
use Rattle.sift_core.specs.Machines.{layout_of}
use Rattle.sift_core.proofs.MachineSteps.{unit_below}
use Rattle.sift_core.proofs.Turning.{unit_there}
use Rattle.sift_core.proofs.machine.Machine.are_all_done.Goals as goal

-- a unit that has yet to land
pub returns-then-number_of-end-clause-open : goal.returns-then-number_of-end-clause-open
returns-then-number_of-end-clause-open c = λ same done.
    let low : c.numbered-unit.result < (layout_of c.args.self.now).units =
    (let units = ap (λ (l : Layout). l.units) c.layout-number-end.ensures in omega (arith, c.numbered-unit.ensures, c.loop-number-test.true)) in
    let there = unit_there (flown_of c.args.mission.now) c.args.self.now c.numbered-unit.result c.requires.flies low in
    omega (arith, (done c.numbered-unit.result there).0, c.if-number_of-end.true, c.number_of.ensures, c.requires.end)

-- or that has yet to spend its storm
pub returns-then-not-is_spent-clause-open : goal.returns-then-not-is_spent-clause-open
returns-then-not-is_spent-clause-open c = λ same done.
    let low : c.numbered-unit.result < (layout_of c.args.self.now).units =
    (let units = ap (λ (l : Layout). l.units) c.layout-number-end.ensures in omega (arith, c.numbered-unit.ensures, c.loop-number-test.true)) in
    let there = unit_there (flown_of c.args.mission.now) c.args.self.now c.numbered-unit.result c.requires.flies low in
    eqb-false (slice_index (lefts (data_of c.args.mission.now) c.args.self.now) c.numbered-unit.result) 0 (sym c.if-not-is_spent.ensures) (done c.numbered-unit.result there).1

-- none is left
pub returns-clause-done : goal.returns-clause-done
returns-clause-done c = λ same u there.
    let low = unit_below (flown_of c.args.mission.now) c.args.self.now u c.requires.flies there in
    let below : u < c.loop-number.number =
    (let units = ap (λ (l : Layout). l.units) c.layout-number-end.ensures in omega (arith, low, c.loop-number-test.false)) in
    let done = c.loop-number.invariant.1 u below in
    (omega (arith, done.0, c.requires.end), done.1)

-- the core is lawful
pub number_of-requires-clause-lawful : goal.number_of-requires-clause-lawful
number_of-requires-clause-lawful c = (c.requires.flies.0, c.requires.flies.1.lawful)

-- the unit is one of the machine
pub is_spent-requires-clause-unit : goal.is_spent-requires-clause-unit
is_spent-requires-clause-unit c =
    let units = ap (λ (l : Layout). l.units) c.layout-number-end.ensures in omega (arith, c.numbered-unit.ensures, c.loop-number-test.true)
