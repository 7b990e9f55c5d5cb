use Rattle.std.proofs.Common.{◌≡◌, ◌∙◌, None, Some, ap, below_more, map, refl, sym, arith}
use Rattle.std.proofs.lemmas.List.{length-map, take_all}
use Rattle.toml.specs.View.{table_view}
use Rattle.sift_script.specs.Script.{change_of}
use Rattle.sift_document.specs.Document.{each_read}
use Rattle.sift_document.specs.laws.EntryTests.{of_entries}
use Rattle.sift_document.specs.laws.Places.{fails_here, holds_here, nowhere, read_more}
use Rattle.sift_document.specs.laws.Testing.{first_broken}
use Rattle.sift_sections.specs.Fault.{changes_of}
use Rattle.sift_sections.specs.Item.{change_in}
use Rattle.sift_sections.proofs.fault.said_items.Goals as goal

-- an item of a fault states no change
pub returns-in-None-clause-tests : goal.returns-in-None-clause-tests
returns-in-None-clause-tests c =
    let none : None ≡ changes_of (table_view c.index-tables-place.result.now) =
    rw c.in-None.is at c.in_ok-items.ensures ∙ ap (each_read change_in) (of_entries c.entries_at.result.now refl c.entries_at.ensures) in
    rw c.broken.ensures
    (first_broken 29 _ _
    (holds_here (λ fault. table_view fault.now) c.args.tables.now (λ at fault. changes_of fault ≡ None) _ _
    c.loop-place-test.true c.index-tables-place.is (sym none))
    c.loop-place.invariant.1)

-- each of a fault more does
pub loop-place-preserved : goal.loop-place-preserved
loop-place-preserved c =
    let some : Some (map change_of c.in-Some.items.items) ≡ changes_of (table_view c.index-tables-place.result.now) =
    rw c.in-Some.is at c.in_ok-items.ensures ∙ ap (each_read change_in) (of_entries c.entries_at.result.now refl c.entries_at.ensures) in (
      read_more (λ items. Some (map change_of items.items)) (λ fault. changes_of (table_view fault.now)) c.args.tables.now _ _ _ _ _
          c.loop-place-test.true c.index-tables-place.is c.loop-place.invariant.0 c.in_ok-push-in-Some.ensures.items some,
      below_more _ _ c.loop-place.invariant.1
          (fails_here (λ fault. table_view fault.now) c.args.tables.now (λ at fault. changes_of fault ≡ None) _ _
          c.loop-place-test.true c.index-tables-place.is (λ none. let wrong : Some _ ≡ None = some ∙ none in cc wrong)),
    )

-- the items of all faults were read
pub returns-clause-changes : goal.returns-clause-changes
returns-clause-changes c =
    c.loop-place.invariant.0
    ∙ take_all c.loop-place.place (map (λ fault. changes_of (table_view fault.now)) c.args.tables.now) (rw length-map c.loop-place-test.false)

pub returns-clause-tests : goal.returns-clause-tests
returns-clause-tests c =
    nowhere (λ fault. table_view fault.now) c.args.tables.now (λ at fault. changes_of fault ≡ None)
    (λ at low. c.loop-place.invariant.1 at (omega (arith, low, c.loop-place-test.false)))

pub broken-requires : goal.broken-requires
broken-requires c = omega (arith, c.loop-place-test.true, c.requires)
