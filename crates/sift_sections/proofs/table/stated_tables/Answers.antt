use Rattle.std.proofs.Common.{◌≡◌, ℕ, Some, Err, rules, map, ap, subst, ◌∙◌, List, length, arith}
use Rattle.toml.specs.Data.{Members}
use Rattle.toml.specs.View.{table_view, view}
use Rattle.sift_document.specs.Testing.{RefusesBy, Tests}
use Rattle.sift_document.specs.Document.{tables_in}
use Rattle.sift_document.specs.laws.Order.{ended, ok_from, stopped}
use Rattle.sift_document.specs.laws.Places.{map_map}
use Rattle.sift_sections.specs.Table.{schedule_in, table_rules}
use Rattle.sift_sections.specs.laws.Named.{BreaksTimes, BreaksPositions}
use Rattle.sift_sections.proofs.table.stated_tables.Goals as goal

-- `table` is no array of a table for each size
pub returns-in_err-tables-clause-tests : goal.returns-in_err-tables-clause-tests
returns-in_err-tables-clause-tests c =
    let same : c.from_residual.result ≡ Err c.in_err-tables.field-0.0 = search rules in
    rw same (stopped 0 (table_rules c.args.version c.args.units (Some (view c.args.value.now))) c.in_err-tables.field-0.0 c.in_err-tables.ensures.tests)

-- a table doesn't say when
pub returns-in_err-check_times-clause-tests : goal.returns-in_err-check_times-clause-tests
returns-in_err-check_times-clause-tests c =
    let same : c.from_residual-in_err-check_times.result ≡ Err c.in_err-check_times.field-0.0 = search rules in
    let tables : map (λ table. table_view table.now) c.deref.result.now ≡ tables_in (Some (view c.args.value.now)) = rw c.deref.ensures.value c.in_ok-tables.ensures.tables in
    let refused : RefusesBy 24 (BreaksTimes (tables_in (Some (view c.args.value.now)))) c.in_err-check_times.field-0.0 =
    subst (λ (ts : List Members). RefusesBy 24 (BreaksTimes ts) c.in_err-check_times.field-0.0) tables c.in_err-check_times.ensures in
    rw same (stopped 1 (table_rules c.args.version c.args.units (Some (view c.args.value.now))) c.in_err-check_times.field-0.0
    (c.in_ok-tables.ensures.tests, refused))

-- each does
pub read_tables-requires-clause-timed : goal.read_tables-requires-clause-timed
read_tables-requires-clause-timed c = rw (c.deref-2.ensures.value, ← c.deref.ensures.value) c.in_ok-check_times.ensures

pub returns-clause-read : goal.returns-clause-read
returns-clause-read c =
    let tables : map (λ table. table_view table.now) c.deref-2.result.now ≡ tables_in (Some (view c.args.value.now)) = rw c.deref-2.ensures.value c.in_ok-tables.ensures.tables in
    ok_from _ _ c.read_tables.result (λ schedules so.
    so ∙ map_map (schedule_in c.args.period) (λ table. table_view table.now) c.deref-2.result.now ∙ ap (map (schedule_in c.args.period)) tables)
    c.read_tables.ensures.read

pub returns-clause-tests : goal.returns-clause-tests
returns-clause-tests c =
    let all = tables_in (Some (view c.args.value.now)) in
    let first : map (λ table. table_view table.now) c.deref.result.now ≡ all = rw c.deref.ensures.value c.in_ok-tables.ensures.tables in
    let tables : map (λ table. table_view table.now) c.deref-2.result.now ≡ all = rw c.deref-2.ensures.value c.in_ok-tables.ensures.tables in
    let timed : (place : ℕ) → ¬ BreaksTimes all place = subst (λ (ts : List Members). (place : ℕ) → ¬ BreaksTimes ts place) first c.in_ok-check_times.ensures in
    let placed : Tests 25 (BreaksPositions all) c.read_tables.result =
    subst (λ (ts : List Members). Tests 25 (BreaksPositions ts) c.read_tables.result) tables c.read_tables.ensures.tests in
    ended (table_rules c.args.version c.args.units (Some (view c.args.value.now))) c.read_tables.result
    (λ schedules is. (c.in_ok-tables.ensures.tests, (timed, (rw is at placed, tt))))
    (λ e is. stopped 2 (table_rules c.args.version c.args.units (Some (view c.args.value.now))) e (c.in_ok-tables.ensures.tests, (timed, rw is at placed)))

-- the tables are few, and each has a size
pub check_times-requires : goal.check_times-requires
check_times-requires c = omega (arith, ap length c.deref.ensures.value, c.in_ok-tables.ensures.few)

pub read_tables-requires-clause-few : goal.read_tables-requires-clause-few
read_tables-requires-clause-few c = omega (arith, ap length c.deref-2.ensures.value, c.in_ok-tables.ensures.few)

pub read_tables-requires-clause-sized : goal.read_tables-requires-clause-sized
read_tables-requires-clause-sized c = rw c.deref-2.ensures.value c.in_ok-tables.ensures.sized
