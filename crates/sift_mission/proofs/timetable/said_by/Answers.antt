use Rattle.std.proofs.Common.{◌∙◌, ap, sym, slice_index}
use Rattle.sift_table.specs.Schedule.{run_in}
use Rattle.sift_table.specs.Timing.{due_in}
use Rattle.sift_mission.specs.Parts.{data_of}
use Rattle.sift_mission.specs.Data.{shapes_in}
use Rattle.sift_mission.proofs.Held.{held-place, held-task, held-there, out_low}
use Rattle.sift_mission.proofs.timetable.said_by.Goals as goal

-- the word's task stands in the list
pub bounds-tasks-from : goal.bounds-tasks-from
bounds-tasks-from c =
    let low = out_low (data_of c.args.parts.now) c.requires.knows.fit c.args.i c.in-Out.w c.requires.slot (sym c.in-Out.ensures) in
    rw c.from.ensures (held-place c.args.parts.now c.args.tasks.now c.requires.knows.fit c.requires.knows.listed c.in-Out.w low)

-- and is one of the table's
pub run_of-requires : goal.run_of-requires
run_of-requires c =
    let low = out_low (data_of c.args.parts.now) c.requires.knows.fit c.args.i c.in-Out.w c.requires.slot (sym c.in-Out.ensures) in
    let there = held-there c.args.parts.now c.args.tasks.now c.requires.knows.fit c.requires.knows.listed c.in-Out.w low in
    rw (c.from-in-Out.ensures, c.from.ensures, c.requires.table.rows) there

pub returns-in-Out : goal.returns-in-Out
returns-in-Out c =
    let low = out_low (data_of c.args.parts.now) c.requires.knows.fit c.args.i c.in-Out.w c.requires.slot (sym c.in-Out.ensures) in
    let task = held-task c.args.parts.now c.args.tasks.now c.requires.knows.fit c.requires.knows.listed c.in-Out.w low in
    c.run_of.ensures
    ∙ ap (run_in c.args.table.now) (c.from-in-Out.ensures ∙ (ap (λ n. slice_index c.args.tasks.now n) c.from.ensures ∙ task))
    ∙ ap (λ k. due_in c.args.table.now (shapes_in (data_of c.args.parts.now)) k) c.in-Out.ensures
