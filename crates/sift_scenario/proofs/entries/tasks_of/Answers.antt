use Rattle.std.proofs.Common.{◌≡◌, ◌<◌, ◌+◌, ℕ, Err, rules, length, map, take, sym, ap, arith, ◌∙◌, Some}
use Rattle.std.proofs.lemmas.List.{length-map}
use Rattle.std.specs.List.{sum}
use Rattle.toml.specs.View.{table_view}
use Rattle.sift_base.specs.Layout.{word_limit}
use Rattle.sift_base.specs.declared.stop.Stop.TheVariants as stop
use Rattle.sift_document.specs.Testing.{RefusesBy}
use Rattle.sift_document.specs.laws.Order.{stopped}
use Rattle.sift_sections.specs.laws.Values.{read_values}
use Rattle.sift_scenario.specs.Task.{counts_of, name_of, start_words, task_rules, tasks_of}
use Rattle.sift_scenario.proofs.Starts.{counts_from}
use Rattle.sift_scenario.proofs.entries.tasks_of.Goals as goal

-- `task` is no array of tables
pub returns-in_err-tables-clause-tests : goal.returns-in_err-tables-clause-tests
returns-in_err-tables-clause-tests c =
    let same : c.from_residual.result ≡ Err c.in_err-tables.field-0.0 = search rules in
    rw same (stopped 0 (task_rules (table_view c.args.document.now)) c.in_err-tables.field-0.0 c.in_err-tables.ensures.tests)

-- a task has no new name
pub returns-in_err-names-clause-tests : goal.returns-in_err-names-clause-tests
returns-in_err-names-clause-tests c =
    let same : c.from_residual-in_err-names.result ≡ Err c.in_err-names.field-0.0 = search rules in
    rw same (stopped 1 (task_rules (table_view c.args.document.now)) c.in_err-names.field-0.0
    (c.in_ok-tables.ensures.tests, rw (c.deref.ensures.value, c.in_ok-tables.ensures.tables) at c.in_err-names.ensures.tests))

-- a task has no start words
pub returns-in_err-starts-clause-tests : goal.returns-in_err-starts-clause-tests
returns-in_err-starts-clause-tests c =
    let same : c.from_residual-in_err-starts.result ≡ Err c.in_err-starts.field-0.0 = search rules in
    let named = rw (c.deref.ensures.value, c.in_ok-tables.ensures.tables) at c.in_ok-names.ensures.tests in
    rw same (stopped 2 (task_rules (table_view c.args.document.now)) c.in_err-starts.field-0.0
    (c.in_ok-tables.ensures.tests, (named, rw (c.deref-2.ensures.value, c.in_ok-tables.ensures.tables) at c.in_err-starts.ensures.tests)))

-- with a task there are too many words
pub returns-in_err-check_words-clause-tests : goal.returns-in_err-check_words-clause-tests
returns-in_err-check_words-clause-tests c =
    let same : c.from_residual-in_err-check_words.result ≡ Err (stop.Refused c.in_err-check_words.field-0.0) = search rules in
    let tasks = tasks_of (table_view c.args.document.now) in
    let named = rw (c.deref.ensures.value, c.in_ok-tables.ensures.tables) at c.in_ok-names.ensures.tests in
    let starting = rw (c.deref-2.ensures.value, c.in_ok-tables.ensures.tables) at c.in_ok-starts.ensures.tests in
    let started = (rw c.deref-2.ensures.value at c.in_ok-starts.ensures.starts) ∙ read_values (λ task. table_view task.now) start_words c.in_ok-tables.tables.items
    ∙ ap (map start_words) c.in_ok-tables.ensures.tables in
    let counts = counts_from (λ words. words.items) tasks c.in_ok-starts.starts.items started in
    let many : RefusesBy 21 (λ place. (place < length (counts_of tasks)) × (word_limit < sum (take (place + 1) (counts_of tasks)))) (stop.Refused c.in_err-check_words.field-0.0) =
    rw (← counts, length-map) (rw c.deref-3.ensures.value at c.in_err-check_words.ensures) in
    rw same (stopped 3 (task_rules (table_view c.args.document.now)) (stop.Refused c.in_err-check_words.field-0.0)
    (c.in_ok-tables.ensures.tests, (named, (starting, many))))

-- each task has as many words as start words
pub task_forms-requires-clause-starts : goal.task_forms-requires-clause-starts
task_forms-requires-clause-starts c =
    rw (c.deref-4.ensures.value, c.deref-5.ensures.value) (counts_from (λ words. words.items) (map (λ task. table_view task.now) c.in_ok-tables.tables.items)
    c.in_ok-starts.starts.items
    ((rw c.deref-2.ensures.value at c.in_ok-starts.ensures.starts) ∙ read_values (λ task. table_view task.now) start_words c.in_ok-tables.tables.items))

-- a task has no form
pub returns-in_err-forms-clause-tests : goal.returns-in_err-forms-clause-tests
returns-in_err-forms-clause-tests c =
    let same : c.from_residual-in_err-forms.result ≡ Err c.in_err-forms.field-0.0 = search rules in
    let tasks = tasks_of (table_view c.args.document.now) in
    let named = rw (c.deref.ensures.value, c.in_ok-tables.ensures.tables) at c.in_ok-names.ensures.tests in
    let starting = rw (c.deref-2.ensures.value, c.in_ok-tables.ensures.tables) at c.in_ok-starts.ensures.tests in
    let started = (rw c.deref-2.ensures.value at c.in_ok-starts.ensures.starts) ∙ read_values (λ task. table_view task.now) start_words c.in_ok-tables.tables.items
    ∙ ap (map start_words) c.in_ok-tables.ensures.tables in
    let counts = counts_from (λ words. words.items) tasks c.in_ok-starts.starts.items started in
    let few : (place : ℕ) → ¬ ((place < length (counts_of tasks)) × (word_limit < sum (take (place + 1) (counts_of tasks)))) =
    rw (← counts, length-map) (rw c.deref-3.ensures.value at c.in_ok-check_words.ensures) in
    rw same (stopped 4 (task_rules (table_view c.args.document.now)) c.in_err-forms.field-0.0
    (c.in_ok-tables.ensures.tests, (named, (starting, (few, rw (c.deref-4.ensures.value, c.in_ok-tables.ensures.tables) at c.in_err-forms.ensures.tests)))))

-- the tasks are read
pub returns-clause-read : goal.returns-clause-read
returns-clause-read c =
    let tables = c.in_ok-tables.ensures.tables in
    let long = sym (length-map c.in_ok-tables.tables.items (λ task. table_view task.now)) ∙ ap length tables in record {
      some = omega (arith, long, c.in_ok-tables.ensures.some);
      few = omega (arith, long, c.in_ok-tables.ensures.few);
      names = (rw c.deref.ensures.value at c.in_ok-names.ensures.names)
          ∙ read_values (λ task. table_view task.now) name_of c.in_ok-tables.tables.items ∙ ap (map name_of) tables;
      starts = (rw c.deref-2.ensures.value at c.in_ok-starts.ensures.starts)
          ∙ read_values (λ task. table_view task.now) start_words c.in_ok-tables.tables.items ∙ ap (map start_words) tables;
      forms = rw (c.deref-4.ensures.value, tables) at c.in_ok-forms.ensures.forms;
    }

-- no rule is broken
pub returns-clause-tests : goal.returns-clause-tests
returns-clause-tests c =
    let tasks = tasks_of (table_view c.args.document.now) in
    let named = rw (c.deref.ensures.value, c.in_ok-tables.ensures.tables) at c.in_ok-names.ensures.tests in
    let starting = rw (c.deref-2.ensures.value, c.in_ok-tables.ensures.tables) at c.in_ok-starts.ensures.tests in
    let started = (rw c.deref-2.ensures.value at c.in_ok-starts.ensures.starts) ∙ read_values (λ task. table_view task.now) start_words c.in_ok-tables.tables.items
    ∙ ap (map start_words) c.in_ok-tables.ensures.tables in
    let counts = counts_from (λ words. words.items) tasks c.in_ok-starts.starts.items started in
    let few : (place : ℕ) → ¬ ((place < length (counts_of tasks)) × (word_limit < sum (take (place + 1) (counts_of tasks)))) =
    rw (← counts, length-map) (rw c.deref-3.ensures.value at c.in_ok-check_words.ensures) in
    let forms = rw (c.deref-4.ensures.value, c.in_ok-tables.ensures.tables) at c.in_ok-forms.ensures.tests in
    (c.in_ok-tables.ensures.tests, (named, (starting, (few, (forms, tt)))))

-- the tasks are few
pub names_in-requires : goal.names_in-requires
names_in-requires c = omega (arith, ap length c.deref.ensures.value, c.in_ok-tables.ensures.few)

pub task_starts-requires : goal.task_starts-requires
task_starts-requires c = omega (arith, ap length c.deref-2.ensures.value, c.in_ok-tables.ensures.few)

pub check_words-requires : goal.check_words-requires
check_words-requires c =
    let many = sym (length-map c.in_ok-starts.starts.items (λ words. Some words.items)) ∙ ap length c.in_ok-starts.ensures.starts
    ∙ length-map c.deref-2.result.now (λ task. start_words (table_view task.now)) in
    omega (arith, many, ap length c.deref-2.ensures.value, ap length c.deref-3.ensures.value, c.in_ok-tables.ensures.few)

pub task_forms-requires-clause-few : goal.task_forms-requires-clause-few
task_forms-requires-clause-few c = omega (arith, ap length c.deref-4.ensures.value, c.in_ok-tables.ensures.few)
