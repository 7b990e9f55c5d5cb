use Rattle.std.proofs.Common.{◌≡◌, ◌-◌, Err, rules, arith}
use Rattle.toml.specs.View.{view}
use Rattle.sift_document.specs.laws.EntryTests.{of_entries, refused_whole, tested}
use Rattle.sift_document.specs.laws.Order.{ok_from}
use Rattle.sift_sections.specs.Table.{IsTableEntry, size_count}
use Rattle.sift_sections.proofs.table.sized_tables.Goals as goal

-- `table` is no array of so many entries
pub returns-in_err-entries-clause-tests : goal.returns-in_err-entries-clause-tests
returns-in_err-entries-clause-tests c =
    let same : c.from_residual.result ≡ Err c.in_err-entries.field-0.0 = search rules in
    let sizes : c.from-sizes.result - 3 ≡ size_count c.args.units = omega (arith, c.from-sizes.ensures) in
    rw same (refused_whole 23 (size_count c.args.units) (size_count c.args.units) (IsTableEntry c.args.version) (view c.args.value.now) _ (rw sizes at c.in_err-entries.ensures.wrong))

pub returns-clause-tables : goal.returns-clause-tables
returns-clause-tables c =
    ok_from _ _ c.entries_by_size.result (λ tables so. of_entries _ so c.in_ok-entries.ensures.entries) c.entries_by_size.ensures.tables

pub returns-clause-tests : goal.returns-clause-tests
returns-clause-tests c =
    let sizes : c.from-sizes.result - 3 ≡ size_count c.args.units = omega (arith, c.from-sizes.ensures) in
    tested 23 (size_count c.args.units) (size_count c.args.units) (IsTableEntry c.args.version) (view c.args.value.now) _ c.in_ok-entries.ensures.entries
    (rw sizes at c.in_ok-entries.ensures.right) c.entries_by_size.result c.entries_by_size.ensures.tests
