use Rattle.std.proofs.Common.{◌≡◌, ◌<◌, ◌≤◌, length, ap, map, sym, ◌∙◌, arith}
use Rattle.std.proofs.lemmas.List.{length-map}
use Rattle.toml.specs.View.{table_view, view}
use Rattle.sift_base.specs.Shapes.{task_limit}
use Rattle.sift_document.specs.Document.{members_of}
use Rattle.sift_document.specs.laws.Order.{ok_from}
use Rattle.sift_document.specs.laws.Places.{map_map}
use Rattle.sift_scenario.proofs.TaskTests.{tested_tasks}
use Rattle.sift_scenario.proofs.Testing.{some_entry}
use Rattle.sift_scenario.proofs.entries.task_tables.Goals as goal

pub returns-clause-tables : goal.returns-clause-tables
returns-clause-tables c =
    ok_from _ _ c.tables_in.result (λ tables so. so ∙ map_map members_of view c.entries_at-entries.result.now ∙ ap (map members_of) c.entries_at-entries.ensures) c.tables_in.ensures.tables

pub returns-clause-some : goal.returns-clause-some
returns-clause-some c =
    let entries = c.entries_at-entries.result.now in
    ok_from _ _ c.tables_in.result (λ tables so.
    let long : length tables.items ≡ length entries =
    sym (length-map tables.items (λ table. table_view table.now)) ∙ ap length so ∙ length-map entries (λ entry. members_of (view entry)) in
    omega (arith, long, some_entry entries c.if-is_empty.ensures, length-map entries view))
    c.tables_in.ensures.tables

pub returns-clause-few : goal.returns-clause-few
returns-clause-few c =
    let entries = c.entries_at-entries.result.now in
    ok_from _ _ c.tables_in.result (λ tables so.
    let long : length tables.items ≡ length entries =
    sym (length-map tables.items (λ table. table_view table.now)) ∙ ap length so ∙ length-map entries (λ entry. members_of (view entry)) in
    omega (arith, long, c.if-entries-gt-TASK_LIMIT.false))
    c.tables_in.ensures.tables

-- what tests the entries tests the rule
pub returns-clause-tests : goal.returns-clause-tests
returns-clause-tests c =
    let entries = c.entries_at-entries.result.now in
    let number : (0 < length (map view entries)) × (length (map view entries) ≤ task_limit)
    = (some_entry entries c.if-is_empty.ensures, omega (arith, length-map entries view, c.if-entries-gt-TASK_LIMIT.false)) in
    tested_tasks (table_view c.args.document.now) (map view entries) c.entries_at-entries.ensures number c.tables_in.result c.tables_in.ensures.tests
