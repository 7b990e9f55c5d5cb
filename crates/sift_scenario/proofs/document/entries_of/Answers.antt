use Rattle.std.proofs.Common.{◌≡◌, ◌+◌, ◌*◌, ℕ, Some, Err, rules, length, sym, ap, ◌∙◌, arith}
use Rattle.std.specs.Prelude.{codes, unwrap_or}
use Rattle.std.proofs.lemmas.List.{length-map}
use Rattle.toml.specs.Data.{get_member}
use Rattle.toml.specs.View.{table_view}
use Rattle.sift_base.specs.Layout.{least_units}
use Rattle.sift_base.specs.Units.{unit_limit}
use Rattle.sift_base.specs.declared.stop.Stop.TheVariants as stop
use Rattle.sift_table.specs.Rules.{report_lead}
use Rattle.sift_table.specs.Schedule.{agreed_in, hearing_delay, shortest_period}
use Rattle.sift_document.specs.Document.{members_of}
use Rattle.sift_document.specs.Rules.{AreKept}
use Rattle.sift_document.specs.Testing.{RefusesFirst}
use Rattle.sift_document.specs.laws.Order.{stopped}
use Rattle.sift_document.specs.laws.Numbers.{between_at, between_or}
use Rattle.sift_mission.specs.PartsFit.{longest_period}
use Rattle.sift_sections.specs.Table.{schedules_by, table_rules}
use Rattle.sift_sections.specs.laws.Named.{later_table_rules}
use Rattle.sift_scenario.specs.Task.{task_entries}
use Rattle.sift_scenario.proofs.Read.{count_is}
use Rattle.sift_scenario.proofs.Themes.{for_version, root_refused, theme_refused, themes_kept}
use Rattle.sift_scenario.proofs.document.entries_of.Goals as goal

-- a rule of the root is broken
pub returns-in_err-root-clause-refused : goal.returns-in_err-root-clause-refused
returns-in_err-root-clause-refused c =
    let same : c.from_residual.result ≡ Err (stop.Refused c.in_err-root.field-0.0) = search rules in
    rw same (root_refused (table_view c.args.document.now) (stop.Refused c.in_err-root.field-0.0) c.in_err-root.ensures.tests)

-- a rule of the clock is
pub returns-in_err-clock-clause-refused : goal.returns-in_err-clock-clause-refused
returns-in_err-clock-clause-refused c =
    let same : c.from_residual-in_err-clock.result ≡ Err (stop.Refused c.in_err-clock.field-0.0) = search rules in
    rw same (theme_refused (table_view c.args.document.now) c.in_ok-root.root.units c.in_ok-root.ensures.units 1 (stop.Refused c.in_err-clock.field-0.0)
    (c.in_ok-root.ensures.tests, c.in_err-clock.ensures.tests))

pub stated_clocks-requires : goal.stated_clocks-requires
stated_clocks-requires c =
    (between_at least_units unit_limit (get_member (codes "units") (table_view c.args.document.now)) c.in_ok-root.root.units c.in_ok-root.ensures.units).1

-- a rule of the sensors is
pub returns-in_err-sensors-clause-refused : goal.returns-in_err-sensors-clause-refused
returns-in_err-sensors-clause-refused c =
    let same : c.from_residual-in_err-sensors.result ≡ Err c.in_err-sensors.field-0.0 = search rules in
    rw same (theme_refused (table_view c.args.document.now) c.in_ok-root.root.units c.in_ok-root.ensures.units 2 c.in_err-sensors.field-0.0
    (c.in_ok-root.ensures.tests, (c.in_ok-clock.ensures.tests, c.in_err-sensors.ensures.tests)))

-- a rule of the tasks is
pub returns-in_err-tasks-clause-refused : goal.returns-in_err-tasks-clause-refused
returns-in_err-tasks-clause-refused c =
    let same : c.from_residual-in_err-tasks.result ≡ Err c.in_err-tasks.field-0.0 = search rules in
    rw same (theme_refused (table_view c.args.document.now) c.in_ok-root.root.units c.in_ok-root.ensures.units 3 c.in_err-tasks.field-0.0
    (c.in_ok-root.ensures.tests, (c.in_ok-clock.ensures.tests, (c.in_ok-sensors.ensures.tests, c.in_err-tasks.ensures.tests))))

-- there are as many tasks as entries
pub overflow_cast-count : goal.overflow_cast-count
overflow_cast-count c =
    let count = count_is (table_view c.args.document.now) c.in_ok-tasks.tasks c.in_ok-tasks.ensures.read in
    omega (arith, count, c.in_ok-tasks.ensures.read.few, length-map (task_entries (table_view c.args.document.now)) members_of, c.len-count.ensures, c.in_ok-tasks.tasks.forms.ok.0)

pub period_of-period-requires-clause-tasks : goal.period_of-period-requires-clause-tasks
period_of-period-requires-clause-tasks c =
    let count = count_is (table_view c.args.document.now) c.in_ok-tasks.tasks c.in_ok-tasks.ensures.read in
    omega (arith, count, c.in_ok-tasks.ensures.read.few, length-map (task_entries (table_view c.args.document.now)) members_of, c.len-count.ensures, c.in_ok-tasks.tasks.forms.ok.0)

pub period_of-period-requires-clause-subframes : goal.period_of-period-requires-clause-subframes
period_of-period-requires-clause-subframes c =
    between_or shortest_period longest_period (get_member (codes "subframes") (table_view c.args.document.now)) c.in_ok-root.root.subframes c.in_ok-root.ensures.subframes

pub tables_of-requires-clause-enough_units : goal.tables_of-requires-clause-enough_units
tables_of-requires-clause-enough_units c =
    (between_at least_units unit_limit (get_member (codes "units") (table_view c.args.document.now)) c.in_ok-root.root.units c.in_ok-root.ensures.units).0

pub tables_of-requires-clause-few_units : goal.tables_of-requires-clause-few_units
tables_of-requires-clause-few_units c =
    (between_at least_units unit_limit (get_member (codes "units") (table_view c.args.document.now)) c.in_ok-root.root.units c.in_ok-root.ensures.units).1

pub tables_of-requires-clause-few_tasks : goal.tables_of-requires-clause-few_tasks
tables_of-requires-clause-few_tasks c =
    let count = count_is (table_view c.args.document.now) c.in_ok-tasks.tasks c.in_ok-tasks.ensures.read in
    omega (arith, count, c.in_ok-tasks.ensures.read.few, length-map (task_entries (table_view c.args.document.now)) members_of, c.len-count.ensures, c.in_ok-tasks.tasks.forms.ok.0)

-- a rule of the tables is broken
pub returns-in_err-tables-clause-refused : goal.returns-in_err-tables-clause-refused
returns-in_err-tables-clause-refused c =
    let same : c.from_residual-in_err-tables.result ≡ Err c.in_err-tables.field-0.0 = search rules in
    let document = table_view c.args.document.now in
    let root = c.in_ok-root.root in
    let refused = for_version document root.version c.in_ok-root.ensures.version
    (λ v. RefusesFirst (table_rules v root.units (get_member (codes "table") document)) c.in_err-tables.field-0.0) c.in_err-tables.ensures.tests in
    rw same (theme_refused document root.units c.in_ok-root.ensures.units 4 c.in_err-tables.field-0.0
    (c.in_ok-root.ensures.tests, (c.in_ok-clock.ensures.tests, (c.in_ok-sensors.ensures.tests, (c.in_ok-tasks.ensures.tests, refused)))))

-- a rule of the faults is broken
pub returns-in_err-script-clause-refused : goal.returns-in_err-script-clause-refused
returns-in_err-script-clause-refused c =
    let same : c.from_residual-in_err-script.result ≡ Err c.in_err-script.field-0.0 = search rules in
    let document = table_view c.args.document.now in
    let root = c.in_ok-root.root in
    let tables = for_version document root.version c.in_ok-root.ensures.version
    (λ v. AreKept (table_rules v root.units (get_member (codes "table") document))) c.in_ok-tables.ensures.tests in
    rw same (theme_refused document root.units c.in_ok-root.ensures.units 5 c.in_err-script.field-0.0
    (c.in_ok-root.ensures.tests, (c.in_ok-clock.ensures.tests, (c.in_ok-sensors.ensures.tests, (c.in_ok-tasks.ensures.tests, (tables, c.in_err-script.ensures.tests))))))

-- the later rule of the tables is broken
pub returns-in_err-check_sheds-clause-refused : goal.returns-in_err-check_sheds-clause-refused
returns-in_err-check_sheds-clause-refused c =
    let same : c.from_residual-in_err-check_sheds.result ≡ Err c.in_err-check_sheds.field-0.0 = search rules in
    let document = table_view c.args.document.now in
    let root = c.in_ok-root.root in
    let tables = for_version document root.version c.in_ok-root.ensures.version
    (λ v. AreKept (table_rules v root.units (get_member (codes "table") document))) c.in_ok-tables.ensures.tests in
    let refused = stopped 0 (later_table_rules (get_member (codes "table") document)) c.in_err-check_sheds.field-0.0 c.in_err-check_sheds.ensures in
    rw same (theme_refused document root.units c.in_ok-root.ensures.units 6 c.in_err-check_sheds.field-0.0 (
      c.in_ok-root.ensures.tests,
      (c.in_ok-clock.ensures.tests, (c.in_ok-sensors.ensures.tests, (c.in_ok-tasks.ensures.tests, (tables, (c.in_ok-script.ensures.tests, refused))))),
    ))

-- no rule is broken
pub returns-clause-read : goal.returns-clause-read
returns-clause-read c =
    let document = table_view c.args.document.now in
    let root = c.in_ok-root.root in
    let count : c.len-count.result ≡ length (task_entries document) = c.len-count.ensures ∙ c.in_ok-tasks.tasks.forms.ok.0 ∙ count_is document c.in_ok-tasks.tasks c.in_ok-tasks.ensures.read in
    let plain = λ (n : ℕ). agreed_in + hearing_delay * n + report_lead in
    let tables = for_version document root.version c.in_ok-root.ensures.version
    (λ v. AreKept (table_rules v root.units (get_member (codes "table") document))) c.in_ok-tables.ensures.tests in
    record {
      lawful = themes_kept document root.units c.in_ok-root.ensures.units (
        c.in_ok-root.ensures.tests,
        (
          c.in_ok-clock.ensures.tests,
          (
            c.in_ok-sensors.ensures.tests,
            (c.in_ok-tasks.ensures.tests, (tables, (c.in_ok-script.ensures.tests, ((c.in_ok-check_sheds.ensures, tt), tt)))),
          ),
        ),
      );
      units = c.in_ok-root.ensures.units;
      frames = c.in_ok-root.ensures.frames;
      period = c.in_ok-root.ensures.subframes (plain (length (task_entries document)))
          ∙ ap (λ n. Some (unwrap_or root.subframes (plain n))) (sym count) ∙ ap (λ n. Some n) (sym c.period_of-period.ensures);
      clock = c.in_ok-clock.ensures.read;
      sensors = c.in_ok-sensors.ensures.read;
      tasks = c.in_ok-tasks.ensures.read;
      tables = c.in_ok-tables.ensures.read
          ∙ ap (λ n. schedules_by (get_member (codes "table") document) root.units c.period_of-period.result n) count;
      faults = c.in_ok-script.ensures.read;
    }

-- the tables are few
pub check_sheds-requires : goal.check_sheds-requires
check_sheds-requires c = c.in_ok-tables.ensures.few
