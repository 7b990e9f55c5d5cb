use Rattle.std.proofs.Common.{◌≡◌, None, below_more, map, ◌∙◌, arith}
use Rattle.std.proofs.lemmas.List.{length-map, take_all}
use Rattle.toml.specs.View.{table_view}
use Rattle.sift_table.specs.Schedule.{schedule_of}
use Rattle.sift_document.specs.laws.Places.{fails_here, holds_here, nowhere, read_more}
use Rattle.sift_document.specs.laws.Testing.{first_broken}
use Rattle.sift_sections.specs.Reading.{IsPartial}
use Rattle.sift_sections.specs.Table.{positions_of, schedule_in}
use Rattle.sift_sections.proofs.TableReading.{positionless}
use Rattle.sift_sections.proofs.table.read_tables.Goals as goal

-- a table doesn't say where the tasks are run
pub returns-in-None-clause-tests : goal.returns-in-None-clause-tests
returns-in-None-clause-tests c =
    let partial : IsPartial (table_view c.index-tables-place.result.now) = rw c.in-None.is at c.in_ok-schedule.ensures.none in
    rw c.broken.ensures
    (first_broken 25 _ _
    (holds_here (λ table. table_view table.now) c.args.tables.now (λ at table. positions_of table ≡ None) _ _
    c.loop-place-test.true c.index-tables-place.is
    (positionless (λ table. table_view table.now) c.args.tables.now c.requires.sized c.requires.timed _ _ c.loop-place-test.true c.index-tables-place.is partial))
    c.loop-place.invariant.1)

-- a table more is read
pub loop-place-preserved : goal.loop-place-preserved
loop-place-preserved c = (
  read_more schedule_of (λ table. schedule_in c.args.period (table_view table.now)) c.args.tables.now _ _ _ _ _
      c.loop-place-test.true c.index-tables-place.is c.loop-place.invariant.0 c.in_ok-push-in-Some.ensures.items
      (rw c.in-Some.is at c.in_ok-schedule.ensures.found),
  below_more _ _ c.loop-place.invariant.1
      (fails_here (λ table. table_view table.now) c.args.tables.now (λ at table. positions_of table ≡ None) _ _
      c.loop-place-test.true c.index-tables-place.is (rw c.in-Some.is at c.in_ok-schedule.ensures.whole)),
)

-- all tables were read
pub returns-clause-read : goal.returns-clause-read
returns-clause-read c =
    c.loop-place.invariant.0 ∙ take_all c.loop-place.place (map (λ table. schedule_in c.args.period (table_view table.now)) c.args.tables.now) (rw length-map c.loop-place-test.false)

pub returns-clause-tests : goal.returns-clause-tests
returns-clause-tests c =
    nowhere (λ table. table_view table.now) c.args.tables.now (λ at table. positions_of table ≡ None)
    (λ at low. c.loop-place.invariant.1 at (omega (arith, low, c.loop-place-test.false)))

pub broken-requires : goal.broken-requires
broken-requires c = omega (arith, c.loop-place-test.true, c.requires.few)
