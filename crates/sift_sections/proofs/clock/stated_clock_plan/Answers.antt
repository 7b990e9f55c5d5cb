use Rattle.std.proofs.Common.{◌≡◌, Some, Err, pos, to_z, w32, rules, arith}
use Rattle.std.proofs.lemmas.Int.{ints}
use Rattle.toml.specs.View.{table_view, view}
use Rattle.sift_base.specs.declared.stop.Stop.TheVariants as stop
use Rattle.sift_document.specs.laws.Order.{stopped}
use Rattle.sift_sections.specs.Clock.{clock_rules}
use Rattle.sift_sections.proofs.ClockTests.{clock_kept, clocks_read, drift_kept, drift_refused, errors_kept, errors_refused, figure_refused, start_kept, start_refused, units_refused}
use Rattle.sift_sections.proofs.Figures.{few_error, few_length, few_rate, few_skew}
use Rattle.sift_sections.proofs.clock.stated_clock_plan.Goals as goal

-- the value is no table of a clock
pub returns-in_err-clock-clause-tests : goal.returns-in_err-clock-clause-tests
returns-in_err-clock-clause-tests c =
    let same : c.from_residual.result ≡ Err c.in_err-clock.field-0.0 = search rules in
    rw same (stopped 0 (clock_rules c.args.units (Some (view c.args.value.now))) (stop.Refused c.in_err-clock.field-0.0) c.in_err-clock.ensures.tests)

-- a figure is refused
pub returns-in_err-figures-clause-tests : goal.returns-in_err-figures-clause-tests
returns-in_err-figures-clause-tests c =
    let same : c.from_residual-in_err-figures.result ≡ Err c.in_err-figures.field-0.0 = search rules in
    rw same (figure_refused c.args.units (view c.args.value.now) (table_view c.in_ok-clock.clock.now) c.in_ok-clock.ensures.read c.in_ok-clock.ensures.tests
    (stop.Refused c.in_err-figures.field-0.0) c.in_err-figures.ensures.tests)

-- the starts are
pub returns-in_err-start-clause-tests : goal.returns-in_err-start-clause-tests
returns-in_err-start-clause-tests c =
    let same : c.from_residual-in_err-start.result ≡ Err c.in_err-start.field-0.0 = search rules in
    let clock = table_view c.in_ok-clock.clock.now in
    let figures = c.in_ok-figures.ensures in
    rw same (units_refused c.args.units (view c.args.value.now) clock c.in_ok-clock.ensures.read c.in_ok-clock.ensures.tests figures.tests (stop.Refused c.in_err-start.field-0.0)
    (start_refused c.args.units clock _ _ _ figures.skew figures.error figures.rate (stop.Refused c.in_err-start.field-0.0) c.in_err-start.ensures.tests))

-- the drifts are
pub returns-in_err-drift-clause-tests : goal.returns-in_err-drift-clause-tests
returns-in_err-drift-clause-tests c =
    let same : c.from_residual-in_err-drift.result ≡ Err c.in_err-drift.field-0.0 = search rules in
    let clock = table_view c.in_ok-clock.clock.now in
    let figures = c.in_ok-figures.ensures in
    rw same (units_refused c.args.units (view c.args.value.now) clock c.in_ok-clock.ensures.read c.in_ok-clock.ensures.tests figures.tests (stop.Refused c.in_err-drift.field-0.0)
    (drift_refused c.args.units clock _ _ _ figures.skew figures.error figures.rate (stop.Refused c.in_err-drift.field-0.0) c.in_ok-start.ensures.tests c.in_err-drift.ensures.tests))

-- the errors are
pub returns-in_err-errors-clause-tests : goal.returns-in_err-errors-clause-tests
returns-in_err-errors-clause-tests c =
    let same : c.from_residual-in_err-errors.result ≡ Err c.in_err-errors.field-0.0 = search rules in
    let clock = table_view c.in_ok-clock.clock.now in
    let figures = c.in_ok-figures.ensures in
    rw same (units_refused c.args.units (view c.args.value.now) clock c.in_ok-clock.ensures.read c.in_ok-clock.ensures.tests figures.tests (stop.Refused c.in_err-errors.field-0.0)
    (errors_refused c.args.units clock _ _ _ figures.skew figures.error figures.rate (stop.Refused c.in_err-errors.field-0.0)
    c.in_ok-start.ensures.tests c.in_ok-drift.ensures.tests c.in_err-errors.ensures.tests))

-- none is
pub returns-clause-tests : goal.returns-clause-tests
returns-clause-tests c =
    let clock = table_view c.in_ok-clock.clock.now in
    let figures = c.in_ok-figures.ensures in
    clock_kept c.args.units (view c.args.value.now) clock c.in_ok-clock.ensures.read c.in_ok-clock.ensures.tests figures.tests (
      start_kept c.args.units clock _ _ _ figures.skew figures.error figures.rate c.in_ok-start.ensures.tests,
      (
        drift_kept c.args.units clock _ _ _ figures.skew figures.error figures.rate c.in_ok-drift.ensures.tests,
        (errors_kept c.args.units clock _ _ _ figures.skew figures.error figures.rate c.in_ok-errors.ensures.tests, tt),
      ),
    )

-- the figures are within their limits
pub starts_of-requires-clause-skew : goal.starts_of-requires-clause-skew
starts_of-requires-clause-skew c = few_skew (table_view c.in_ok-clock.clock.now) _ c.in_ok-figures.ensures.skew

pub drifts_of-requires-clause-rate : goal.drifts_of-requires-clause-rate
drifts_of-requires-clause-rate c = few_rate (table_view c.in_ok-clock.clock.now) _ c.in_ok-figures.ensures.rate

pub errors_of-requires-clause-error : goal.errors_of-requires-clause-error
errors_of-requires-clause-error c = few_error (table_view c.in_ok-clock.clock.now) _ c.in_ok-figures.ensures.error

pub overflow_cast-result : goal.overflow_cast-result
overflow_cast-result c = omega (arith, few_skew (table_view c.in_ok-clock.clock.now) _ c.in_ok-figures.ensures.skew)

pub overflow_cast-result-2 : goal.overflow_cast-result-2
overflow_cast-result-2 c = omega (arith, few_error (table_view c.in_ok-clock.clock.now) _ c.in_ok-figures.ensures.error)

pub overflow_cast-result-3 : goal.overflow_cast-result-3
overflow_cast-result-3 c = omega (arith, few_rate (table_view c.in_ok-clock.clock.now) _ c.in_ok-figures.ensures.rate)

pub overflow_cast-result-4 : goal.overflow_cast-result-4
overflow_cast-result-4 c = omega (arith, few_length (table_view c.in_ok-clock.clock.now) _ c.in_ok-figures.ensures.length)

-- the clocks are those that the value states
pub returns-clause-read : goal.returns-clause-read
returns-clause-read c =
    let clock = table_view c.in_ok-clock.clock.now in
    let figures = c.in_ok-figures.ensures in
    let read = c.in_ok-figures.figures in
    let skew : to_z w32 read.skew ≡ pos read.skew = omega (arith, ints, few_skew clock _ figures.skew) in
    let error : to_z w32 read.error ≡ pos read.error = omega (arith, ints, few_error clock _ figures.error) in
    let rate : to_z w32 read.rate ≡ pos read.rate = omega (arith, ints, few_rate clock _ figures.rate) in
    let length : to_z w32 read.length ≡ pos read.length = omega (arith, ints, few_length clock _ figures.length) in
    rw (skew, error, rate, length) (clocks_read c.args.units (view c.args.value.now) clock _ _ _ _ _ _ _ c.in_ok-clock.ensures.read
    figures.skew figures.error figures.rate figures.length c.in_ok-start.ensures.read c.in_ok-drift.ensures.read c.in_ok-errors.ensures.read)
