use Rattle.std.proofs.Common.{◌≡◌, Err, rules}
use Rattle.toml.specs.View.{table_view}
use Rattle.sift_base.specs.declared.stop.Stop.TheVariants as stop
use Rattle.sift_document.specs.laws.Order.{stopped}
use Rattle.sift_sections.specs.Clock.{figure_rules}
use Rattle.sift_sections.proofs.Figures.{few_error, few_rate, few_skew, length_kept, length_refused, skew_kept, skew_refused}
use Rattle.sift_sections.proofs.clock.figures_of.Goals as goal

-- the figures are within their limits
pub check_skew-requires-clause-error : goal.check_skew-requires-clause-error
check_skew-requires-clause-error c = few_error (table_view c.args.clock.now) _ c.in_ok-error.ensures.error

pub check_skew-requires-clause-rate : goal.check_skew-requires-clause-rate
check_skew-requires-clause-rate c = few_rate (table_view c.args.clock.now) _ c.in_ok-error.ensures.rate

pub check_length-requires-clause-skew : goal.check_length-requires-clause-skew
check_length-requires-clause-skew c = few_skew (table_view c.args.clock.now) _ c.in_ok-skew.ensures.read

pub check_length-requires-clause-error : goal.check_length-requires-clause-error
check_length-requires-clause-error c = few_error (table_view c.args.clock.now) _ c.in_ok-error.ensures.error

pub check_length-requires-clause-rate : goal.check_length-requires-clause-rate
check_length-requires-clause-rate c = few_rate (table_view c.args.clock.now) _ c.in_ok-error.ensures.rate

-- the first rule that is broken is that of the test that stopped
pub returns-in_err-skew-clause-tests : goal.returns-in_err-skew-clause-tests
returns-in_err-skew-clause-tests c =
    let same : c.from_residual.result ≡ Err c.in_err-skew.field-0.0 = search rules in
    rw same (stopped 0 (figure_rules (table_view c.args.clock.now)) (stop.Refused c.in_err-skew.field-0.0) c.in_err-skew.ensures.tests)

pub returns-in_err-error-clause-tests : goal.returns-in_err-error-clause-tests
returns-in_err-error-clause-tests c =
    let same : c.from_residual-in_err-error.result ≡ Err c.in_err-error.field-0.0 = search rules in
    rw same (stopped 1 (figure_rules (table_view c.args.clock.now)) (stop.Refused c.in_err-error.field-0.0) (c.in_ok-skew.ensures.tests, c.in_err-error.ensures.tests))

pub returns-in_err-length-clause-tests : goal.returns-in_err-length-clause-tests
returns-in_err-length-clause-tests c =
    let same : c.from_residual-in_err-length.result ≡ Err c.in_err-length.field-0.0 = search rules in
    rw same (stopped 2 (figure_rules (table_view c.args.clock.now)) (stop.Refused c.in_err-length.field-0.0)
    (c.in_ok-skew.ensures.tests, (c.in_ok-error.ensures.tests, c.in_err-length.ensures.tests)))

pub returns-in_err-check_skew-clause-tests : goal.returns-in_err-check_skew-clause-tests
returns-in_err-check_skew-clause-tests c =
    let same : c.from_residual-in_err-check_skew.result ≡ Err c.in_err-check_skew.field-0.0 = search rules in
    let clock = table_view c.args.clock.now in
    let refused = skew_refused clock _ _ _ c.in_ok-skew.ensures.read c.in_ok-error.ensures.error c.in_ok-error.ensures.rate
    (stop.Refused c.in_err-check_skew.field-0.0) c.in_err-check_skew.ensures in
    rw same (stopped 3 (figure_rules clock) (stop.Refused c.in_err-check_skew.field-0.0)
    (c.in_ok-skew.ensures.tests, (c.in_ok-error.ensures.tests, (c.in_ok-length.ensures.tests, refused))))

pub returns-in_err-check_length-clause-tests : goal.returns-in_err-check_length-clause-tests
returns-in_err-check_length-clause-tests c =
    let same : c.from_residual-in_err-check_length.result ≡ Err c.in_err-check_length.field-0.0 = search rules in
    let clock = table_view c.args.clock.now in
    let kept = skew_kept clock _ _ _ c.in_ok-skew.ensures.read c.in_ok-error.ensures.error c.in_ok-error.ensures.rate c.in_ok-check_skew.ensures in
    let refused = length_refused clock _ _ _ c.in_ok-skew.ensures.read c.in_ok-error.ensures.error c.in_ok-error.ensures.rate _ c.in_ok-length.ensures.read
    (stop.Refused c.in_err-check_length.field-0.0) c.in_err-check_length.ensures in
    rw same (stopped 4 (figure_rules clock) (stop.Refused c.in_err-check_length.field-0.0)
    (c.in_ok-skew.ensures.tests, (c.in_ok-error.ensures.tests, (c.in_ok-length.ensures.tests, (kept, refused)))))

-- none is broken
pub returns-clause-tests : goal.returns-clause-tests
returns-clause-tests c =
    let clock = table_view c.args.clock.now in
    let kept = skew_kept clock _ _ _ c.in_ok-skew.ensures.read c.in_ok-error.ensures.error c.in_ok-error.ensures.rate c.in_ok-check_skew.ensures in
    let long = length_kept clock _ _ _ c.in_ok-skew.ensures.read c.in_ok-error.ensures.error c.in_ok-error.ensures.rate _ c.in_ok-length.ensures.read
    c.in_ok-check_length.ensures in
    (c.in_ok-skew.ensures.tests, (c.in_ok-error.ensures.tests, (c.in_ok-length.ensures.tests, (kept, (long, tt)))))
