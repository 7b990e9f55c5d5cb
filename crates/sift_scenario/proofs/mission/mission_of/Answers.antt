use Rattle.std.proofs.Common.{◌≡◌, Err, rules}
use Rattle.toml.specs.View.{table_view}
use Rattle.sift_document.specs.laws.Order.{err_from, ok_from}
use Rattle.sift_scenario.proofs.UniqueRefusals.{complete_of, exact_of}
use Rattle.sift_scenario.proofs.mission.mission_of.Goals as goal

-- a rule is broken
pub returns-in_err-entries-clause-accepted : goal.returns-in_err-entries-clause-accepted
returns-in_err-entries-clause-accepted c =
    let same : c.from_residual.result ≡ Err c.in_err-entries.field-0.0 = search rules in
    rw same tt

pub returns-in_err-entries-clause-refused : goal.returns-in_err-entries-clause-refused
returns-in_err-entries-clause-refused c =
    let same : c.from_residual.result ≡ Err c.in_err-entries.field-0.0 = search rules in
    rw same c.in_err-entries.ensures.refused

pub returns-in_err-entries-clause-complete : goal.returns-in_err-entries-clause-complete
returns-in_err-entries-clause-complete c = complete_of (table_view c.args.document.now) c.from_residual.result (returns-in_err-entries-clause-refused c)

pub returns-in_err-entries-clause-exact : goal.returns-in_err-entries-clause-exact
returns-in_err-entries-clause-exact c =
    exact_of (table_view c.args.document.now) c.from_residual.result (returns-in_err-entries-clause-accepted c) (returns-in_err-entries-clause-refused c)

pub run_entries-requires : goal.run_entries-requires
run_entries-requires c = (table_view c.args.document.now, c.in_ok-entries.ensures.read)

-- a text is refused, or its code
pub returns-in_err-running-clause-accepted : goal.returns-in_err-running-clause-accepted
returns-in_err-running-clause-accepted c =
    let same : c.from_residual-in_err-running.result ≡ Err c.in_err-running.field-0.0 = search rules in
    rw same tt

pub returns-in_err-running-clause-refused : goal.returns-in_err-running-clause-refused
returns-in_err-running-clause-refused c =
    let same : c.from_residual-in_err-running.result ≡ Err c.in_err-running.field-0.0 = search rules in
    rw same (c.in_err-running.ensures.refused (table_view c.args.document.now) c.in_ok-entries.ensures.read)

pub returns-in_err-running-clause-complete : goal.returns-in_err-running-clause-complete
returns-in_err-running-clause-complete c =
    complete_of (table_view c.args.document.now) c.from_residual-in_err-running.result (returns-in_err-running-clause-refused c)

pub returns-in_err-running-clause-exact : goal.returns-in_err-running-clause-exact
returns-in_err-running-clause-exact c =
    exact_of (table_view c.args.document.now) c.from_residual-in_err-running.result
    (returns-in_err-running-clause-accepted c) (returns-in_err-running-clause-refused c)

-- its tables and its script are good, or refused
pub assemble-requires : goal.assemble-requires
assemble-requires c = (
  table_view c.args.document.now,
  c.in_ok-entries.ensures.read,
  c.in_ok-running.ensures.running (table_view c.args.document.now) c.in_ok-entries.ensures.read,
)

pub returns-clause-accepted : goal.returns-clause-accepted
returns-clause-accepted c =
    let document = table_view c.args.document.now in
    let runs = c.in_ok-running.ensures.running document c.in_ok-entries.ensures.read in
    ok_from _ _ c.assemble.result (λ mission so. so document c.in_ok-entries.ensures.read runs) c.assemble.ensures.accepted

pub returns-clause-refused : goal.returns-clause-refused
returns-clause-refused c =
    let document = table_view c.args.document.now in
    let runs = c.in_ok-running.ensures.running document c.in_ok-entries.ensures.read in
    err_from _ _ c.assemble.result (λ e so. so document c.in_ok-entries.ensures.read runs) c.assemble.ensures.refused

pub returns-clause-complete : goal.returns-clause-complete
returns-clause-complete c = complete_of (table_view c.args.document.now) c.assemble.result (returns-clause-refused c)

pub returns-clause-exact : goal.returns-clause-exact
returns-clause-exact c =
    exact_of (table_view c.args.document.now) c.assemble.result (returns-clause-accepted c) (returns-clause-refused c)
