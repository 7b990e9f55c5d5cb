use Rattle.std.proofs.Common.{ap, ◌∙◌}
use Rattle.std.specs.FinSet as set
use Rattle.std.specs.Ordering.{nat_cmp}
use Rattle.std.proofs.lemmas.List.{take_all}
use Rattle.sift_base.specs.Units.{has, holds}
use Rattle.sift_line.proofs.Sets.{members_of_list, more_held, units_of_list}
use Rattle.sift_line.proofs.number.set_of.Goals as goal

pub loop-unit-init : goal.loop-unit-init
loop-unit-init c = λ u. ap (λ s. holds s u) c.empty-set.ensures ∙ set.contains-empty nat_cmp u

pub loop-unit-preserved : goal.loop-unit-preserved
loop-unit-preserved c =
    more_held c.loop-unit.set c.with-set.result c.args.units.now c.loop-unit.unit-index c.unit-item.result
    c.loop-unit.invariant c.with-set.ensures c.loop-unit-test.true c.unit-item.is

pub returns-clause-members : goal.returns-clause-members
returns-clause-members c =
    let all = take_all c.loop-unit.unit-index c.args.units.now c.loop-unit-test.false in
    members_of_list c.loop-unit.set c.args.units.now c.requires (λ u. c.loop-unit.invariant u ∙ ap (λ us. has us u) all)

pub returns-clause-units : goal.returns-clause-units
returns-clause-units c =
    let all = take_all c.loop-unit.unit-index c.args.units.now c.loop-unit-test.false in
    units_of_list c.loop-unit.set c.args.units.now c.requires (λ u. c.loop-unit.invariant u ∙ ap (λ us. has us u) all)
