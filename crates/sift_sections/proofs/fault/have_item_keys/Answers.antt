use Rattle.std.proofs.Common.{map, sym, ap, subst, take, ◌∙◌, refl}
use Rattle.std.proofs.lemmas.List.{get_or-map, length-map, take_all}
use Rattle.std.proofs.lemmas.List.Elements.{All-push}
use Rattle.toml.specs.View.{view}
use Rattle.sift_document.specs.Document.{IsTableOf}
use Rattle.sift_document.specs.laws.Places.{so_far}
use Rattle.sift_sections.specs.Item.{item_keys}
use Rattle.sift_sections.proofs.Faulting.{if_found, if_missing}
use Rattle.sift_sections.proofs.fault.have_item_keys.Goals as goal

-- an entry is no table, or has an unknown key
pub returns-then-is_none : goal.returns-then-is_none
returns-then-is_none c =
    let entry = c.entry-item.result in
    let here = get_or-map view c.args.entries.now c.loop-entry.entry-index entry (view entry) c.loop-entry-test.true ∙ ap view (sym c.entry-item.is) in
    let other = if_missing (IsTableOf item_keys (view entry) → ⊥) c.table_of.result (rw c.if-is_none.true at c.is_none.ensures) c.table_of.ensures.none in (
      λ are. cc are,
      λ all. absurd (other (subst (IsTableOf item_keys) here (all c.loop-entry.entry-index (view entry) (rw length-map c.loop-entry-test.true)))),
    )

-- an entry more is a table with known keys
pub loop-entry-preserved : goal.loop-entry-preserved
loop-entry-preserved c =
    let known = if_found (IsTableOf item_keys (view c.entry-item.result)) c.table_of.result (rw c.if-is_none.false at c.is_none.ensures) c.table_of.ensures.known in
    rw (so_far view c.args.entries.now c.loop-entry.entry-index c.entry-item.result c.loop-entry-test.true c.entry-item.is)
    (All-push (IsTableOf item_keys) (take c.loop-entry.entry-index (map view c.args.entries.now)) (view c.entry-item.result) c.loop-entry.invariant known)

-- all entries were tested
pub returns : goal.returns
returns c = (
  λ _. rw (take_all c.loop-entry.entry-index (map view c.args.entries.now) (rw length-map c.loop-entry-test.false)) at c.loop-entry.invariant,
  λ _. refl,
)
