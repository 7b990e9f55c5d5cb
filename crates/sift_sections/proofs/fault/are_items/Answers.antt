use Rattle.std.proofs.Common.{List, sym, subst}
use Rattle.std.specs.List.{All}
use Rattle.toml.specs.Data.{Data}
use Rattle.sift_document.specs.Document.{IsTableOf}
use Rattle.sift_sections.specs.Item.{item_keys}
use Rattle.sift_sections.proofs.fault.are_items.Goals as goal

-- there are as many entries as there may be, which are those that were tested
pub returns-in-Ok : goal.returns-in-Ok
returns-in-Ok c =
    let known = c.have_item_keys.ensures in
    let keyed = λ (entries : List Data). All (IsTableOf item_keys) entries in (
      λ are. record { few = c.in-Ok.ensures.right; known = subst keyed c.in-Ok.ensures.entries (known.0 are) },
      λ items. known.1 (subst keyed (sym c.in-Ok.ensures.entries) items.known),
    )

-- there are not
pub returns-in-Err : goal.returns-in-Err
returns-in-Err c = (λ are. cc are, λ items. absurd (c.in-Err.ensures.wrong.1 items.few))
