use Rattle.std.proofs.lemmas.Result.{IfOk-equal}
use Rattle.sift_planner.proofs.Listed.{lines_more}
use Rattle.sift_planner.proofs.text.push_table.Goals as goal

-- its four lines
pub returns : goal.returns
returns c =
    let run = rw c.deref.ensures.value at c.in_ok-push_numbers_line.ensures in
    let poll = rw c.deref-2.ensures.value at c.in_ok-push_numbers_line-2.ensures in
    let rows = rw c.deref-3.ensures.value at c.push_rows_line.ensures in
    IfOk-equal c.push_rows_line.result _ _ _ rows (lines_more _ _ _ _ _ _ _ _ c.in_ok-writeln.ensures.bytes run poll)
