use Rattle.std.proofs.Common.{◌≡◌, ◌∙◌, Some, Err, map, rules, ap}
use Rattle.toml.specs.View.{table_view, view}
use Rattle.sift_base.specs.declared.stop.Stop.TheVariants as stop
use Rattle.sift_script.specs.Script.{change_of}
use Rattle.sift_document.specs.Document.{tables_in}
use Rattle.sift_document.specs.laws.Order.{ok_from, stopped}
use Rattle.sift_sections.specs.Fault.{fault_in, fault_rules}
use Rattle.sift_sections.specs.laws.Named.{each_fault_rules}
use Rattle.sift_sections.specs.laws.Values.{read_values}
use Rattle.sift_sections.proofs.Faulting.{faults_read, faults_refused, faults_tested, storms_tested}
use Rattle.sift_sections.proofs.fault.stated_script.Goals as goal

-- `fault` is no array of tables
pub returns-in_err-faults-clause-tests : goal.returns-in_err-faults-clause-tests
returns-in_err-faults-clause-tests c =
    let same : c.from_residual.result ≡ Err c.in_err-faults.field-0.0 = search rules in
    rw same (stopped 0 (fault_rules (Some (view c.args.value.now))) c.in_err-faults.field-0.0 c.in_err-faults.ensures.tests)

-- a fault has no unit, or no first frame
pub returns-in_err-heads-clause-tests : goal.returns-in_err-heads-clause-tests
returns-in_err-heads-clause-tests c =
    let same : c.from_residual-in_err-heads.result ≡ Err c.in_err-heads.field-0.0 = search rules in
    let faults = map (λ fault. table_view fault.now) c.as_slice-tables.result.now in
    let are : faults ≡ tables_in (Some (view c.args.value.now)) = rw c.as_slice-tables.ensures.value c.in_ok-faults.ensures.tables in
    rw same (faults_refused (view c.args.value.now) faults are c.in_ok-faults.ensures.tests c.in_err-heads.field-0.0
    (stopped 0 (each_fault_rules faults) c.in_err-heads.field-0.0 c.in_err-heads.ensures.tests))

-- a fault doesn't fail in one way
pub returns-in_err-check_ways-clause-tests : goal.returns-in_err-check_ways-clause-tests
returns-in_err-check_ways-clause-tests c =
    let same : c.from_residual-in_err-check_ways.result ≡ Err (stop.Refused c.in_err-check_ways.field-0.0) = search rules in
    let faults = map (λ fault. table_view fault.now) c.as_slice-tables.result.now in
    let are : faults ≡ tables_in (Some (view c.args.value.now)) = rw c.as_slice-tables.ensures.value c.in_ok-faults.ensures.tables in
    rw same (faults_refused (view c.args.value.now) faults are c.in_ok-faults.ensures.tests (stop.Refused c.in_err-check_ways.field-0.0)
    (stopped 1 (each_fault_rules faults) (stop.Refused c.in_err-check_ways.field-0.0) (c.in_ok-heads.ensures.tests, c.in_err-check_ways.ensures)))

-- an item states no change
pub returns-in_err-said-clause-tests : goal.returns-in_err-said-clause-tests
returns-in_err-said-clause-tests c =
    let same : c.from_residual-in_err-said.result ≡ Err c.in_err-said.field-0.0 = search rules in
    let faults = map (λ fault. table_view fault.now) c.as_slice-tables.result.now in
    let are : faults ≡ tables_in (Some (view c.args.value.now)) = rw c.as_slice-tables.ensures.value c.in_ok-faults.ensures.tables in
    rw same (faults_refused (view c.args.value.now) faults are c.in_ok-faults.ensures.tests c.in_err-said.field-0.0
    (stopped 2 (each_fault_rules faults) c.in_err-said.field-0.0 (c.in_ok-heads.ensures.tests, (c.in_ok-check_ways.ensures, c.in_err-said.ensures.tests))))

-- the heads and the changes are those of the faults
pub script_from-requires-clause-read : goal.script_from-requires-clause-read
script_from-requires-clause-read c =
    rw c.deref.ensures.value
    (faults_read (λ table. table_view table.now) (λ items. map change_of items.items) c.as_slice-tables.result.now c.in_ok-heads.heads.items c.in_ok-said.said.items
    c.in_ok-heads.ensures.units c.in_ok-heads.ensures.from c.in_ok-said.ensures.changes)

-- the faults are those of the tables
pub returns-clause-read : goal.returns-clause-read
returns-clause-read c =
    let tables = c.as_slice-tables.result.now in
    let are : map (λ fault. table_view fault.now) tables ≡ tables_in (Some (view c.args.value.now)) = rw c.as_slice-tables.ensures.value c.in_ok-faults.ensures.tables in
    ok_from _ _ c.script_from.result (λ script so. so ∙ read_values (λ table. table_view table.now) fault_in tables ∙ ap (map fault_in) are) c.script_from.ensures.read

-- and the last rule is tested
pub returns-clause-tests : goal.returns-clause-tests
returns-clause-tests c =
    let faults = map (λ fault. table_view fault.now) c.as_slice-tables.result.now in
    let are : faults ≡ tables_in (Some (view c.args.value.now)) = rw c.as_slice-tables.ensures.value c.in_ok-faults.ensures.tables in
    faults_tested (view c.args.value.now) faults are c.in_ok-faults.ensures.tests c.script_from.result
    (storms_tested faults c.in_ok-heads.ensures.tests c.in_ok-check_ways.ensures c.in_ok-said.ensures.tests c.script_from.result c.script_from.ensures.tests)
