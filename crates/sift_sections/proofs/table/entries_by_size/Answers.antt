use Rattle.std.proofs.Common.{◌≡◌, Some, None, below_more, map, sym, ◌∙◌, ap, arith}
use Rattle.std.proofs.lemmas.List.{length-map, take_all}
use Rattle.std.proofs.lemmas.List.Elements.{All-push}
use Rattle.toml.specs.View.{table_view, view}
use Rattle.sift_document.specs.Document.{members_of}
use Rattle.sift_document.specs.laws.Places.{fails_here, holds_here, nowhere, read_more}
use Rattle.sift_document.specs.laws.Testing.{first_broken}
use Rattle.sift_sections.specs.Table.{size_of, IsTableEntry}
use Rattle.sift_sections.proofs.table.entries_by_size.Goals as goal

-- an entry isn't a table of its size
pub returns-in-None-clause-tests : goal.returns-in-None-clause-tests
returns-in-None-clause-tests c =
    rw c.broken.ensures
    (first_broken 23 _ _
    (holds_here (λ entry. view entry) c.args.entries.now (λ at entry. ¬ IsTableEntry c.args.version at entry) _ _
    c.loop-place-test.true c.index-entries-place.is c.in-None.ensures.none)
    c.loop-place.invariant.2)

-- an entry more is
pub loop-place-preserved : goal.loop-place-preserved
loop-place-preserved c = (
  read_more (λ table. table_view table.now) (λ entry. members_of (view entry)) c.args.entries.now _ _ _ _ _
      c.loop-place-test.true c.index-entries-place.is c.loop-place.invariant.0 c.in_ok-push-in-Some.ensures.items c.in-Some.ensures.found,
  rw c.in_ok-push-in-Some.ensures.items
      (All-push (λ table. size_of (table_view table.now) ≡ None → ⊥) c.loop-place.tables.items c.in-Some.table c.loop-place.invariant.1
      (λ none. let wrong : Some _ ≡ None = sym c.in-Some.ensures.sized.sized ∙ ap size_of (sym c.in-Some.ensures.found) ∙ none in cc wrong)),
  below_more _ _ c.loop-place.invariant.2
      (fails_here (λ entry. view entry) c.args.entries.now (λ at entry. ¬ IsTableEntry c.args.version at entry) _ _
      c.loop-place-test.true c.index-entries-place.is (λ other. other c.in-Some.ensures.sized)),
)

-- all entries were read
pub returns-clause-tables : goal.returns-clause-tables
returns-clause-tables c =
    c.loop-place.invariant.0 ∙ take_all c.loop-place.place (map (λ entry. members_of (view entry)) c.args.entries.now) (rw length-map c.loop-place-test.false)

pub returns-clause-tests : goal.returns-clause-tests
returns-clause-tests c =
    nowhere (λ entry. view entry) c.args.entries.now (λ at entry. ¬ IsTableEntry c.args.version at entry)
    (λ at low. c.loop-place.invariant.2 at (omega (arith, low, c.loop-place-test.false)))

pub returns-clause-sized : goal.returns-clause-sized
returns-clause-sized c = c.loop-place.invariant.1

-- the places are few
pub sized_table-requires : goal.sized_table-requires
sized_table-requires c = omega (arith, c.loop-place-test.true, c.requires)

pub broken-requires : goal.broken-requires
broken-requires c = omega (arith, c.loop-place-test.true, c.requires)
