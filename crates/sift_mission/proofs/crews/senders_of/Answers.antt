use Rattle.std.proofs.Common.{◌≡◌, ◌<◌, ◌∙◌, ap, sym, subst, true, not, nat_eq, ◌&&◌, slice_index, slice_index_or, arith}
use Rattle.std.specs.FinSet as set
use Rattle.sift_base.specs.Units.{holds, has}
use Rattle.sift_base.specs.laws.Sets.{holds-remove}
use Rattle.sift_mission.specs.Crews.{sends}
use Rattle.sift_mission.specs.Parts.{data_of, flown_of}
use Rattle.sift_mission.specs.laws.Configs.{has-reader}
use Rattle.sift_mission.proofs.Held.{held-place, held-task, held-there, out_low}
use Rattle.sift_mission.proofs.Sayers.{just_one, all_but, twice, rotated}
use Rattle.sift_mission.proofs.crews.senders_of.Goals as goal

-- the word's task stands in the list
pub bounds-tasks-from : goal.bounds-tasks-from
bounds-tasks-from c =
    let low = out_low (data_of c.args.parts.now) c.requires.knows.fit c.args.slot c.in-Out.w c.requires.slot (sym c.in-Out.ensures) in
    rw c.from.ensures (held-place c.args.parts.now c.args.tasks.now c.requires.knows.fit c.requires.knows.listed c.in-Out.w low)

-- and has a crew
pub listed : goal.listed
listed c =
    let low = out_low (data_of c.args.parts.now) c.requires.knows.fit c.args.slot c.in-Out.w c.requires.slot (sym c.in-Out.ensures) in
    let there = held-there c.args.parts.now c.args.tasks.now c.requires.knows.fit c.requires.knows.listed c.in-Out.w low in
    let few = c.requires.knows.fit.program.few_tasks in
    rw (c.from-in-Out.ensures, c.from.ensures) (omega (arith, there, few, c.type_inv.crews))

pub bounds-crews-from : goal.bounds-crews-from
bounds-crews-from c =
    let low = out_low (data_of c.args.parts.now) c.requires.knows.fit c.args.slot c.in-Out.w c.requires.slot (sym c.in-Out.ensures) in
    let there = held-there c.args.parts.now c.args.tasks.now c.requires.knows.fit c.requires.knows.listed c.in-Out.w low in
    let few = c.requires.knows.fit.program.few_tasks in
    rw (c.from-in-Out.ensures, c.from.ensures) (omega (arith, there, few))

-- the reader alone says a sensor's word
pub returns-in-Sense : goal.returns-in-Sense
returns-in-Sense c = λ config p.
    let m = flown_of c.args.parts.now in
    let us = c.args.config.now in
    let there : has us c.reader_of.result ≡ true = subst (λ r. has us r ≡ true) (sym c.reader_of.ensures) (has-reader m us c.in-Sense.x config) in
    ap (λ units. holds units p) (c.with.ensures ∙ ap (λ units. set.insert units c.reader_of.result) c.empty.ensures)
    ∙ just_one us c.reader_of.result p there ∙ ap (λ r. has us p && nat_eq p r) c.reader_of.ensures
    ∙ ap (λ k. has us p && sends m us k p) c.in-Sense.ensures

-- the others relay it
pub returns-in-RelaySense : goal.returns-in-RelaySense
returns-in-RelaySense c = λ config p.
    let m = flown_of c.args.parts.now in
    let us = c.args.config.now in
    ap (λ units. holds units p) c.without.ensures
    ∙ all_but c.units_if-in-RelaySense.result us c.reader_of-in-RelaySense.result p (c.units_if-in-RelaySense.ensures p)
    ∙ ap (λ r. has us p && not (nat_eq p r)) c.reader_of-in-RelaySense.ensures
    ∙ ap (λ k. has us p && sends m us k p) c.in-RelaySense.ensures

-- its crew says a task's word
pub returns-in-Out : goal.returns-in-Out
returns-in-Out c = λ config p.
    let parts = c.args.parts.now in
    let m = flown_of parts in
    let us = c.args.config.now in
    let low = out_low (data_of parts) c.requires.knows.fit c.args.slot c.in-Out.w c.requires.slot (sym c.in-Out.ensures) in
    let listed_task = held-task parts c.args.tasks.now c.requires.knows.fit c.requires.knows.listed c.in-Out.w low in
    let task : c.from-in-Out.result ≡ m.task c.in-Out.w = c.from-in-Out.ensures ∙ (ap (λ n. slice_index c.args.tasks.now n) c.from.ensures ∙ listed_task) in
    let there = subst (λ t. t < m.tasks) listed_task (held-there parts c.args.tasks.now c.requires.knows.fit c.requires.knows.listed c.in-Out.w low) in
    ap (λ t. holds (slice_index_or c.args.crews.now t c.index-crews-from.result) p) task
    ∙ c.requires.crews (m.task c.in-Out.w) c.index-crews-from.result there p
    ∙ twice (has us p) _
    ∙ ap (λ k. has us p && sends m us k p) c.in-Out.ensures

-- the others of the configuration relay the report of one of its units
pub returns-in-RelayReport : goal.returns-in-RelayReport
returns-in-RelayReport c = λ config p.
    let m = flown_of c.args.parts.now in
    let us = c.args.config.now in
    let of = c.in-RelayReport.s in
    ap (λ units. holds units p) c.without-in-RelayReport.ensures
    ∙ holds-remove c.units_if-in-RelayReport.result of p
    ∙ ap (λ t. not (nat_eq p of) && t) (c.units_if-in-RelayReport.ensures p ∙ ap (λ t. has us p && t) c.has.ensures)
    ∙ rotated (not (nat_eq p of)) (has us p) (has us of)
    ∙ ap (λ k. has us p && sends m us k p) c.in-RelayReport.ensures
