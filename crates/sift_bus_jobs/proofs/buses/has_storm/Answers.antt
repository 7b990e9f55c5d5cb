use Rattle.std.proofs.Common.{◌<◌, option_map, ap, sym, ◌∙◌, arith}
use Rattle.sift_config.specs.laws.FirstUnits.{low_unit, unit_low}
use Rattle.sift_script.specs.declared.script.StormEntry.{StormEntry}
use Rattle.sift_bus_jobs.proofs.Coming.{comes}
use Rattle.sift_bus_jobs.proofs.buses.has_storm.Goals as goal

-- this unit's
pub returns-then-is_some-clause-storm : goal.returns-then-is_some-clause-storm
returns-then-is_some-clause-storm c =
    let storm = comes c.storm_of.result (sym c.is_some.ensures ∙ c.if-is_some.true) in
    let units = ap (λ parts. parts.units) c.parts.ensures.same in
    let low : c.in-Some.unit < c.args.mission.now.units =
    omega (arith, units, c.in-Some.ensures.found, c.loop-number-test.true, c.loop-number.auto.number-end) in
    λ _. (
      c.in-Some.unit,
      storm.0,
      low_unit c.args.mission.now.units c.in-Some.unit low,
      ap (option_map (λ (storm : StormEntry). storm.from)) (sym (rw c.parts-in-Some.ensures.same at c.storm_of.ensures)) ∙ storm.1,
    )

-- all units are below the number
pub returns-clause-calm : goal.returns-clause-calm
returns-clause-calm c =
    let units = ap (λ parts. parts.units) c.parts.ensures.same in
    λ _ u there. c.loop-number.invariant u
    (omega (arith, units, unit_low c.args.mission.now.units u there, c.loop-number-test.false, c.loop-number.auto.number-end))
