use Rattle.std.proofs.Common.{◌<◌, ◌∙◌, sym, subst, length, arith}
use mathlib.Core.Logic.{dite}
use native.Mathlib.Decide.{ℕ_discrete}
use Rattle.std.proofs.lemmas.List.{get_or-set_other, get_or-set_same, length-set}
use Rattle.sift_mission.specs.Parts.{data_of}
use Rattle.sift_mission.specs.Timetable.{IsTimetableOf}
use Rattle.sift_mission.proofs.FitTables.{placed-has-rows, table-placed}
use Rattle.sift_mission.proofs.timetable.timetables.Goals as goal

-- the table has a row for each task
pub of-requires-clause-table : goal.of-requires-clause-table
of-requires-clause-table c =
    let value = c.deref-table-items.ensures.value in
    placed-has-rows (data_of c.args.parts.now) c.requires.knows.fit c.loop-i.i c.table-item.result (rw value at c.loop-i-test.true) (rw value at c.table-item.is)

-- one table more
pub loop-i-preserved : goal.loop-i-preserved
loop-i-preserved c =
    let d = data_of c.args.parts.now in
    let i = c.loop-i.i in
    let value = c.deref-table-items.ensures.value in
    let low : i < length d.tables = rw value at c.loop-i-test.true in
    let count = c.requires.knows.fit.tables.count in let few = c.requires.knows.fit.limits.few_units in
    let size = c.loop-i.invariant.0 in
    let inside : i < length c.loop-i.times = omega arith in
    let placed = table-placed d c.requires.knows.fit i c.table-item.result low (rw value at c.table-item.is) in (
      length-set c.loop-i.times i c.of.result ∙ size,
      (λ j t below. dite (ℕ_discrete j i)
          (λ same. rw (same, get_or-set_same c.loop-i.times i c.of.result t inside) (subst (λ table. IsTimetableOf d table c.of.result) (sym placed) c.of.ensures))
          (λ other. rw (get_or-set_other c.loop-i.times i j c.of.result t other) (c.loop-i.invariant.1 j t (omega arith)))),
    )
