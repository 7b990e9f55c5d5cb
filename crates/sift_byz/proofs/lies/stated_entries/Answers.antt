use Rattle.toml.specs.View.{view}
use Rattle.sift_document.specs.Document.{IsTableOf}
use Rattle.sift_document.specs.laws.EntryTests.{kept_entries, refused_entry, refused_whole}
use Rattle.sift_byz.specs.Stated.{lie_keys, lie_limit}
use Rattle.sift_byz.proofs.Stopping.{handed_on}
use Rattle.sift_byz.proofs.lies.stated_entries.Goals as goal

-- `lie` is no array of so few entries
pub returns-in_err-entries-clause-tests : goal.returns-in_err-entries-clause-tests
returns-in_err-entries-clause-tests c =
    rw (handed_on c.from_residual.result _ c.from_residual.ensures) (refused_whole 5 0 lie_limit (λ at. IsTableOf lie_keys) (view c.args.value.now) _ c.in_err-entries.ensures.wrong)

-- an entry is no table, or has an unknown key
pub returns-in_err-check_each-clause-tests : goal.returns-in_err-check_each-clause-tests
returns-in_err-check_each-clause-tests c =
    rw (handed_on c.from_residual-in_err-check_each.result _ c.from_residual-in_err-check_each.ensures)
    (refused_entry 5 0 lie_limit (λ at. IsTableOf lie_keys) (view c.args.value.now) c.in_ok-entries.ensures.right c.in_err-check_each.field-0.0
    (rw c.in_ok-entries.ensures.entries at c.in_err-check_each.ensures))

-- no entry is
pub returns-clause-entries : goal.returns-clause-entries
returns-clause-entries c = c.in_ok-entries.ensures.entries

pub returns-clause-few : goal.returns-clause-few
returns-clause-few c = c.in_ok-entries.ensures.few

pub returns-clause-tests : goal.returns-clause-tests
returns-clause-tests c place =
    kept_entries 5 0 lie_limit (λ at. IsTableOf lie_keys) (view c.args.value.now) c.in_ok-entries.ensures.right place
    (rw c.in_ok-entries.ensures.entries at c.in_ok-check_each.ensures place)
