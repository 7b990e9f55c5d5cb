use Rattle.std.proofs.Common.{ap, arith}
use Rattle.std.proofs.lemmas.Grind.{common_steps}
use Rattle.sift_mission.specs.Parts.{flown_of}
use Rattle.sift_flight.specs.Told.{told}
use Rattle.sift_flight.proofs.Telling.{offset_more}
use Rattle.sift_flight.proofs.figures.offsets_of.Goals as goal

pub loop-unit-preserved : goal.loop-unit-preserved
loop-unit-preserved c =
    offset_more (λ u. ((told (flown_of c.args.mission.now) c.args.flight.now).account u c.args.f).clk) c.args.units.now c.loop-unit.unit-index
    c.unit-item.result c.loop-unit.offsets.items _ c.account_at.result.now.clk c.loop-unit.invariant.0 c.loop-unit.invariant.1 c.push.ensures.items
    c.loop-unit-test.true c.unit-item.is (ap (λ a. a.clk) c.account_at.ensures.told) c.account_at.ensures.account.clock

pub push-requires : goal.push-requires
push-requires c = grind (arith, common_steps)
