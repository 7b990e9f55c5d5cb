use Rattle.std.proofs.Common.{◌∙◌, ◌++◌, ap, sym, arith}
use Rattle.std.proofs.lemmas.Grind.{common_steps}
use Rattle.sift_table.specs.Schedule.{schedule_of}
use Rattle.sift_planner.specs.Text.{table_text}
use Rattle.sift_planner.proofs.Listed.{flat_more}
use Rattle.sift_planner.proofs.text.tables_text.Goals as goal

-- one table more
pub loop-table-preserved : goal.loop-table-preserved
loop-table-preserved c =
    c.in_ok-push_table.ensures ∙ ap (λ bs. bs ++ table_text (schedule_of c.table-item.result)) c.loop-table.invariant
    ∙ sym (flat_more table_text schedule_of c.args.tables.now c.loop-table.table-index c.table-item.result c.loop-table-test.true c.table-item.is)

pub returns : goal.returns
returns c = grind (arith, common_steps)
