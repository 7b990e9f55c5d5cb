use Rattle.std.proofs.Common.{◌≡◌, ◌+◌, ◌∙◌, Some, None, List, ℕ, ap, rules, subst, sym}
use Rattle.toml.specs.View.{view}
use Rattle.sift_document.specs.Document.{IsTableOf}
use Rattle.sift_sections.specs.Table.{size_of}
use Rattle.sift_sections.proofs.table.sized_table.Goals as goal

-- the entry is no table with the keys of this version
pub returns-in_err-table-clause-none : goal.returns-in_err-table-clause-none
returns-in_err-table-clause-none c =
    let same : c.from_residual.result ≡ None = search rules in
    rw same (λ fits. c.in_err-table.ensures.none (subst (λ (keys : List (List ℕ)). IsTableOf keys (view c.args.entry.now)) (sym c.table_keys.ensures) fits.known))

-- it is one, and has the size that its place tells
pub returns-then-eq-clause-sized : goal.returns-then-eq-clause-sized
returns-then-eq-clause-sized c =
    let number : c.number_at.result ≡ Some (4 + c.args.place) = search rules in
    record {
      known = subst (λ (keys : List (List ℕ)). IsTableOf keys (view c.args.entry.now)) c.table_keys.ensures c.in_ok-table.ensures.known;
      sized = ap size_of (sym c.in_ok-table.ensures.found) ∙ sym c.number_at.ensures ∙ number;
    }
