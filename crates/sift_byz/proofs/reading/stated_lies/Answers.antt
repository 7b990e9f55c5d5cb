use Rattle.std.proofs.Common.{◌≡◌, ◌∙◌, drop, map, sym, ap, length}
use Rattle.std.proofs.lemmas.List.{length-map}
use Rattle.toml.specs.View.{table_view, view}
use Rattle.sift_document.specs.laws.Order.{stopped}
use Rattle.sift_byz.specs.Lawful.{rules_for}
use Rattle.sift_byz.specs.Plan.{lie_of}
use Rattle.sift_byz.specs.Stated.{lie_in}
use Rattle.sift_byz.proofs.Stopping.{handed_on}
use Rattle.sift_byz.proofs.reading.stated_lies.Goals as goal

-- `lie` is no array of entries
pub returns-in_err-entries-clause-tests : goal.returns-in_err-entries-clause-tests
returns-in_err-entries-clause-tests c =
    rw (handed_on c.from_residual.result _ c.from_residual.ensures) (stopped 0 (drop 4 (rules_for c.args.units c.args.m (table_view c.args.document.now))) _ c.in_err-entries.ensures.tests)

pub check_each-requires : goal.check_each-requires
check_each-requires c = record { few = c.in_ok-entries.ensures.few; limited = c.requires.few_traitors }

-- an entry has no path
pub returns-in_err-check_each-clause-tests : goal.returns-in_err-check_each-clause-tests
returns-in_err-check_each-clause-tests c =
    rw (handed_on c.from_residual-in_err-check_each.result _ c.from_residual-in_err-check_each.ensures) (stopped 1 (drop 4 (rules_for c.args.units c.args.m (table_view c.args.document.now))) _ (
      c.in_ok-entries.ensures.tests,
      rw c.in_ok-entries.ensures.entries at c.in_err-check_each.ensures,
    ))

pub check_each-requires-2 : goal.check_each-requires-2
check_each-requires-2 c = record { few = c.in_ok-entries.ensures.few; limited = c.requires }

-- an entry has no receivers
pub returns-in_err-check_each-2-clause-tests : goal.returns-in_err-check_each-2-clause-tests
returns-in_err-check_each-2-clause-tests c =
    let paths = rw c.in_ok-entries.ensures.entries at c.in_ok-check_each.ensures in
    rw (handed_on c.from_residual-in_err-check_each-2.result _ c.from_residual-in_err-check_each-2.ensures) (stopped 2 (drop 4 (rules_for c.args.units c.args.m (table_view c.args.document.now))) _ (
      c.in_ok-entries.ensures.tests,
      (paths, rw c.in_ok-entries.ensures.entries at c.in_err-check_each-2.ensures),
    ))

pub lies_in-requires : goal.lies_in-requires
lies_in-requires c = record { few = c.in_ok-entries.ensures.few; limited = c.requires; received = c.in_ok-check_each-2.ensures }

-- an entry has a value that is no word value
pub returns-in_err-lies-clause-tests : goal.returns-in_err-lies-clause-tests
returns-in_err-lies-clause-tests c =
    let paths = rw c.in_ok-entries.ensures.entries at c.in_ok-check_each.ensures in
    let received = rw c.in_ok-entries.ensures.entries at c.in_ok-check_each-2.ensures in
    rw (handed_on c.from_residual-in_err-lies.result _ c.from_residual-in_err-lies.ensures) (stopped 3 (drop 4 (rules_for c.args.units c.args.m (table_view c.args.document.now))) _ (
      c.in_ok-entries.ensures.tests,
      (paths, (received, rw c.in_ok-entries.ensures.entries at c.in_err-lies.ensures.tests)),
    ))

-- the lies are as many as the entries
pub check_few-requires : goal.check_few-requires
check_few-requires c =
    let entries = c.in_ok-entries.entries.now in
    let lies = c.in_ok-lies.lies.items in
    let long : length lies ≡ length entries =
    sym (length-map lies lie_of) ∙ ap length c.in_ok-lies.ensures.lies ∙ length-map (map (λ entry. view entry) entries) lie_in ∙ length-map entries (λ entry. view entry) in
    rw c.deref.ensures.value (record {
      few = rw long c.in_ok-entries.ensures.few;
      traitors = c.requires.few_traitors;
      paths = c.in_ok-lies.ensures.paths;
    })

-- too many units stand last
pub returns-in_err-check_few-clause-tests : goal.returns-in_err-check_few-clause-tests
returns-in_err-check_few-clause-tests c =
    let paths = rw c.in_ok-entries.ensures.entries at c.in_ok-check_each.ensures in
    let received = rw c.in_ok-entries.ensures.entries at c.in_ok-check_each-2.ensures in
    let words = rw c.in_ok-entries.ensures.entries at c.in_ok-lies.ensures.tests in
    let few = rw (c.deref.ensures.value, c.in_ok-lies.ensures.lies, c.in_ok-entries.ensures.entries) at c.in_err-check_few.ensures in
    rw (handed_on c.from_residual-in_err-check_few.result _ c.from_residual-in_err-check_few.ensures) (stopped 4 (drop 4 (rules_for c.args.units c.args.m (table_view c.args.document.now))) _ (
      c.in_ok-entries.ensures.tests,
      (paths, (received, (words, few))),
    ))

-- the rules are kept, and these are the lies that are stated
pub returns-clause-lies : goal.returns-clause-lies
returns-clause-lies c = c.in_ok-lies.ensures.lies ∙ ap (map lie_in) c.in_ok-entries.ensures.entries

pub returns-clause-tests : goal.returns-clause-tests
returns-clause-tests c =
    let paths = rw c.in_ok-entries.ensures.entries at c.in_ok-check_each.ensures in
    let received = rw c.in_ok-entries.ensures.entries at c.in_ok-check_each-2.ensures in
    let words = rw c.in_ok-entries.ensures.entries at c.in_ok-lies.ensures.tests in
    let few = rw (c.deref.ensures.value, c.in_ok-lies.ensures.lies, c.in_ok-entries.ensures.entries) at c.in_ok-check_few.ensures in
    (c.in_ok-entries.ensures.tests, (paths, (received, (words, (few, tt)))))
