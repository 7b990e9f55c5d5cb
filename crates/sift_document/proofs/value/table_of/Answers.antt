use Rattle.std.proofs.Common.{◌≡◌, false, true, Some, sym, subst, ◌∙◌}
use Rattle.toml.specs.Data.{Members}
use Rattle.sift_document.specs.Document.{HasOnlyKeys}
use Rattle.sift_document.proofs.value.table_of.Goals as goal

pub returns-then-has_only_keys-clause-known : goal.returns-then-has_only_keys-clause-known
returns-then-has_only_keys-clause-known c = (_, sym c.in_ok-table.ensures, c.has_only_keys.ensures.0 c.if-has_only_keys.true)

-- the table has another key
pub returns-else-has_only_keys-clause-none : goal.returns-else-has_only_keys-clause-none
returns-else-has_only_keys-clause-none c there =
    let both : Some there.0 ≡ Some _ = sym there.1 ∙ sym c.in_ok-table.ensures in
    let one : there.0 ≡ _ = cc both in
    let wrong : false ≡ true = rw c.if-has_only_keys.false at c.has_only_keys.ensures.1 (subst (λ (members : Members). HasOnlyKeys _ members) one there.2) in
    cc
