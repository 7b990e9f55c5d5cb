use Rattle.std.proofs.Common.{◌≡◌, Err, rules}
use Rattle.toml.specs.View.{table_view}
use Rattle.sift_base.specs.declared.stop.Stop.TheVariants as stop
use Rattle.sift_document.specs.laws.Order.{stopped}
use Rattle.sift_scenario.specs.Root.{root_rules}
use Rattle.sift_scenario.proofs.document.root_of.Goals as goal

-- the first rule that is broken is that of the test that stopped
pub returns-in_err-check_keys-clause-tests : goal.returns-in_err-check_keys-clause-tests
returns-in_err-check_keys-clause-tests c =
    let same : c.from_residual.result ≡ Err c.in_err-check_keys.field-0.0 = search rules in
    rw same (stopped 0 (root_rules (table_view c.args.document.now)) (stop.Refused c.in_err-check_keys.field-0.0) c.in_err-check_keys.ensures)

pub returns-in_err-units-clause-tests : goal.returns-in_err-units-clause-tests
returns-in_err-units-clause-tests c =
    let same : c.from_residual-in_err-units.result ≡ Err c.in_err-units.field-0.0 = search rules in
    rw same (stopped 1 (root_rules (table_view c.args.document.now)) (stop.Refused c.in_err-units.field-0.0)
    (c.in_ok-check_keys.ensures, c.in_err-units.ensures.tests))

pub returns-in_err-frames-clause-tests : goal.returns-in_err-frames-clause-tests
returns-in_err-frames-clause-tests c =
    let same : c.from_residual-in_err-frames.result ≡ Err c.in_err-frames.field-0.0 = search rules in
    rw same (stopped 2 (root_rules (table_view c.args.document.now)) (stop.Refused c.in_err-frames.field-0.0)
    (c.in_ok-check_keys.ensures, (c.in_ok-units.ensures.tests, c.in_err-frames.ensures.tests)))

pub returns-in_err-version-clause-tests : goal.returns-in_err-version-clause-tests
returns-in_err-version-clause-tests c =
    let same : c.from_residual-in_err-version.result ≡ Err c.in_err-version.field-0.0 = search rules in
    rw same (stopped 3 (root_rules (table_view c.args.document.now)) (stop.Refused c.in_err-version.field-0.0)
    (c.in_ok-check_keys.ensures, (c.in_ok-units.ensures.tests, (c.in_ok-frames.ensures.tests, c.in_err-version.ensures.tests))))

pub returns-in_err-subframes-clause-tests : goal.returns-in_err-subframes-clause-tests
returns-in_err-subframes-clause-tests c =
    let same : c.from_residual-in_err-subframes.result ≡ Err c.in_err-subframes.field-0.0 = search rules in
    rw same (stopped 4 (root_rules (table_view c.args.document.now)) (stop.Refused c.in_err-subframes.field-0.0)
    (c.in_ok-check_keys.ensures, (c.in_ok-units.ensures.tests, (c.in_ok-frames.ensures.tests, (c.in_ok-version.ensures.tests, c.in_err-subframes.ensures.tests)))))

-- none is broken
pub returns-clause-tests : goal.returns-clause-tests
returns-clause-tests c = (
  c.in_ok-check_keys.ensures,
  (c.in_ok-units.ensures.tests, (c.in_ok-frames.ensures.tests, (c.in_ok-version.ensures.tests, (c.in_ok-subframes.ensures.tests, tt)))),
)

-- what was read is what the root states
pub returns-clause-version : goal.returns-clause-version
returns-clause-version c = c.in_ok-version.ensures.version

pub returns-clause-units : goal.returns-clause-units
returns-clause-units c = c.in_ok-units.ensures.units

pub returns-clause-frames : goal.returns-clause-frames
returns-clause-frames c = c.in_ok-frames.ensures.frames

pub returns-clause-subframes : goal.returns-clause-subframes
returns-clause-subframes c = c.in_ok-subframes.ensures.subframes
