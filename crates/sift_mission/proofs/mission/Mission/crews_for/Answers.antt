use Rattle.std.proofs.Common.{◌≡◌, List, ℕ, ap, ◌∙◌, sym, subst, length, arith}
use Rattle.sift_base.specs.Units.{members, units_of}
use Rattle.sift_mission.specs.Data.{IsConfigOf}
use Rattle.sift_mission.specs.Parts.{data_of, flown_of}
use Rattle.sift_mission.proofs.FitTables.{table-low}
use Rattle.sift_mission.proofs.Held.{held-as}
use Rattle.sift_mission.proofs.mission.Mission.crews_for.Goals as goal

pub returns-clause-few : goal.returns-clause-few
returns-clause-few c =
    (held-as c.self.inside.parts c.args.self.now c.self.inside.slots c.self.inside.tasks.items c.self.inside.times c.self.inside.crews c.self.invariant c.self.view_is).fit.program.few_tasks

-- the byte is the configuration's, and there are five tables at most
pub returns-clause-low : goal.returns-clause-low
returns-clause-low c =
    let held = held-as c.self.inside.parts c.args.self.now c.self.inside.slots c.self.inside.tasks.items c.self.inside.times c.self.inside.crews c.self.invariant c.self.view_is in
    let us = c.args.config.now in
    let same : members (units_of c.from.result) ≡ us = ap members (ap units_of c.from.ensures ∙ c.bits.ensures.back) ∙ c.units.ensures.members in
    let row = held.crews_are c.from.result c.index-self-from.result (omega (arith, c.from.ensures, c.bits.type_inv))
    (subst (λ (vs : List ℕ). IsConfigOf (flown_of c.args.self.now) vs) (sym same) c.requires) in
    omega (arith, row.table, ap length same, table-low (data_of c.args.self.now) held.fit us c.requires, held.fit.tables.count, held.fit.limits.few_units)
