use Rattle.std.proofs.Common.{◌≡◌, Err, rules, arith}
use Rattle.toml.specs.View.{table_view, view}
use Rattle.sift_base.specs.Layout.{sensor_limit}
use Rattle.sift_document.specs.Document.{IsTableOf}
use Rattle.sift_document.specs.laws.EntryTests.{as_many_entries, of_entries, refused_whole, tested}
use Rattle.sift_document.specs.laws.Order.{ok_from}
use Rattle.sift_scenario.proofs.Named.{sensor_keys}
use Rattle.sift_scenario.proofs.entries.sensor_tables.Goals as goal

-- `sensor` is no array of so few entries
pub returns-in_err-entries-clause-tests : goal.returns-in_err-entries-clause-tests
returns-in_err-entries-clause-tests c =
    let same : c.from_residual.result ≡ Err c.in_err-entries.field-0.0 = search rules in
    rw same (refused_whole 15 0 sensor_limit (λ place. IsTableOf sensor_keys) (view c.args.value.now) _ c.in_err-entries.ensures.wrong)

pub returns-clause-tables : goal.returns-clause-tables
returns-clause-tables c =
    ok_from _ _ c.tables_in.result (λ tables so. of_entries _ so c.in_ok-entries.ensures.entries) c.tables_in.ensures.tables

pub returns-clause-few : goal.returns-clause-few
returns-clause-few c =
    ok_from _ _ c.tables_in.result (λ tables so.
    let long = as_many_entries (λ table. table_view table.now) tables.items c.in_ok-entries.entries.now so in
    omega (arith, long, c.in_ok-entries.ensures.few)) c.tables_in.ensures.tables

pub returns-clause-tests : goal.returns-clause-tests
returns-clause-tests c =
    tested 15 0 sensor_limit (λ place. IsTableOf sensor_keys) (view c.args.value.now) _ c.in_ok-entries.ensures.entries
    c.in_ok-entries.ensures.right c.tables_in.result c.tables_in.ensures.tests
