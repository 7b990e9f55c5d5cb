use Rattle.std.proofs.Common.{◌≡◌, [], Some, Err, rules, map, ap, ◌∙◌, length, arith}
use Rattle.toml.specs.View.{table_view, view}
use Rattle.sift_document.specs.Document.{tables_in}
use Rattle.sift_document.specs.laws.Order.{stopped}
use Rattle.sift_sections.specs.laws.Values.{read_values}
use Rattle.sift_scenario.specs.Sensor.{sensor_rules, words_of}
use Rattle.sift_scenario.specs.Task.{name_of}
use Rattle.sift_scenario.proofs.Starts.{names_from, unwrapped}
use Rattle.sift_scenario.proofs.entries.stated_sensors.Goals as goal

-- `sensor` is no array of tables
pub returns-in_err-tables-clause-tests : goal.returns-in_err-tables-clause-tests
returns-in_err-tables-clause-tests c =
    let same : c.from_residual.result ≡ Err c.in_err-tables.field-0.0 = search rules in
    rw same (stopped 0 (sensor_rules (Some (view c.args.value.now))) c.in_err-tables.field-0.0 c.in_err-tables.ensures.tests)

-- a name is none, or an earlier one's
pub returns-in_err-names-clause-tests : goal.returns-in_err-names-clause-tests
returns-in_err-names-clause-tests c =
    let same : c.from_residual-in_err-names.result ≡ Err c.in_err-names.field-0.0 = search rules in
    rw same (stopped 1 (sensor_rules (Some (view c.args.value.now))) c.in_err-names.field-0.0
    (c.in_ok-tables.ensures.tests, rw (c.deref.ensures.value, c.in_ok-tables.ensures.tables) at c.in_err-names.ensures.tests))

-- words are missing, or none
pub returns-in_err-words-clause-tests : goal.returns-in_err-words-clause-tests
returns-in_err-words-clause-tests c =
    let same : c.from_residual-in_err-words.result ≡ Err c.in_err-words.field-0.0 = search rules in
    let named = rw (c.deref.ensures.value, c.in_ok-tables.ensures.tables) at c.in_ok-names.ensures.tests in
    rw same (stopped 2 (sensor_rules (Some (view c.args.value.now))) c.in_err-words.field-0.0
    (c.in_ok-tables.ensures.tests, (named, rw (c.deref-2.ensures.value, c.in_ok-tables.ensures.tables) at c.in_err-words.ensures.tests)))

-- the sensors are read
pub returns-clause-read : goal.returns-clause-read
returns-clause-read c =
    let all = tables_in (Some (view c.args.value.now)) in
    let first : map (λ table. table_view table.now) c.deref.result.now ≡ all = rw c.deref.ensures.value c.in_ok-tables.ensures.tables in
    let tables : map (λ table. table_view table.now) c.deref-2.result.now ≡ all = rw c.deref-2.ensures.value c.in_ok-tables.ensures.tables in
    record {
      names = names_from (λ name. name.bytes) all c.in_ok-names.names.items
          (c.in_ok-names.ensures.names ∙ read_values (λ table. table_view table.now) name_of c.deref.result.now ∙ ap (map name_of) first);
      words = unwrapped (λ words. words.items) words_of [] all c.in_ok-words.words.items
          (c.in_ok-words.ensures.words ∙ read_values (λ table. table_view table.now) words_of c.deref-2.result.now ∙ ap (map words_of) tables);
    }

-- no rule is broken
pub returns-clause-tests : goal.returns-clause-tests
returns-clause-tests c =
    let named = rw (c.deref.ensures.value, c.in_ok-tables.ensures.tables) at c.in_ok-names.ensures.tests in
    let sensed = rw (c.deref-2.ensures.value, c.in_ok-tables.ensures.tables) at c.in_ok-words.ensures.tests in
    (c.in_ok-tables.ensures.tests, (named, (sensed, tt)))

-- the sensors are few
pub names_in-requires : goal.names_in-requires
names_in-requires c = omega (arith, ap length c.deref.ensures.value, c.in_ok-tables.ensures.few)

pub sensed_words-requires : goal.sensed_words-requires
sensed_words-requires c = omega (arith, ap length c.deref-2.ensures.value, c.in_ok-tables.ensures.few)
