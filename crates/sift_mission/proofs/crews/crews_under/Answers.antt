use Rattle.std.proofs.Common.{◌-◌, ◌<◌, length, arith}
use Rattle.std.proofs.lemmas.Grind.{common_steps}
use Rattle.std.proofs.lemmas.List.{length-map}
use Rattle.sift_lang.specs.Tree.{tree_of}
use Rattle.sift_mission.specs.Parts.{data_of}
use Rattle.sift_mission.proofs.FitTables.{placed-rows, table-low}
use Rattle.sift_mission.proofs.crews.crews_under.Goals as goal

-- the table has a row for each task
pub crews_by-by_task-requires-clause-rows : goal.crews_by-by_task-requires-clause-rows
crews_by-by_task-requires-clause-rows c =
    let d = data_of c.args.parts.now in
    let low : c.len-place.result - 4 < length d.tables = omega (arith, c.if-place-len.true, c.len.ensures, c.args.parts.now.tables.ok.0) in
    let rows = placed-rows d c.requires.knows.fit (c.len-place.result - 4) c.index.result.now low c.index.ensures in
    omega (arith, rows, c.len-then-place-len.ensures, length-map c.args.parts.now.program.tasks.items tree_of, c.args.parts.now.program.tasks.ok.0)

-- a configuration has a table
pub returns : goal.returns
returns c = λ config. absurd (let low = table-low (data_of c.args.parts.now) c.requires.knows.fit c.args.config.now config in
    omega (arith, c.if-place-len.false, c.len.ensures, c.args.parts.now.tables.ok.0, c.len-place.ensures.length))

-- and by it the crews and the roles of its size
pub returns-then-place-len : goal.returns-then-place-len
returns-then-place-len c = λ config. record {
  crews = grind (arith, common_steps, c.crews_by-by_task.ensures);
  roles = c.all_roles.ensures config;
  table = omega (arith, c.len-place.ensures.length);
}
