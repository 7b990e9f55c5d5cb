use Rattle.std.proofs.Common.{below_more, map, ◌∙◌, arith}
use Rattle.std.proofs.lemmas.List.{length-map, take_all}
use Rattle.toml.specs.View.{table_view, view}
use Rattle.sift_document.specs.Document.{IsTableOf, members_of}
use Rattle.sift_document.specs.laws.Places.{fails_here, holds_here, nowhere, read_more}
use Rattle.sift_document.specs.laws.Testing.{first_broken}
use Rattle.sift_document.proofs.entries.tables_in.Goals as goal

-- an entry is no table, or has an unknown key
pub returns-in-None-clause-tests : goal.returns-in-None-clause-tests
returns-in-None-clause-tests c =
    rw c.broken.ensures
    (first_broken c.args.rule _ _
    (holds_here (λ entry. view entry) c.args.entries.now (λ at entry. ¬ IsTableOf (map (λ key. key.now) c.args.known.now) entry) _ _
    c.loop-place-test.true c.index-entries-place.is c.in-None.ensures.none)
    c.loop-place.invariant.1)

-- an entry more is a table with known keys
pub loop-place-preserved : goal.loop-place-preserved
loop-place-preserved c = (
  read_more (λ table. table_view table.now) (λ entry. members_of (view entry)) c.args.entries.now _ _ _ _ _
      c.loop-place-test.true c.index-entries-place.is c.loop-place.invariant.0 c.in_ok-push-in-Some.ensures.items c.in-Some.ensures.found,
  below_more _ _ c.loop-place.invariant.1
      (fails_here (λ entry. view entry) c.args.entries.now (λ at entry. ¬ IsTableOf (map (λ key. key.now) c.args.known.now) entry) _ _
      c.loop-place-test.true c.index-entries-place.is (λ other. other c.in-Some.ensures.known)),
)

-- all entries were read
pub returns-clause-tables : goal.returns-clause-tables
returns-clause-tables c =
    c.loop-place.invariant.0 ∙ take_all c.loop-place.place (map (λ entry. members_of (view entry)) c.args.entries.now) (rw length-map c.loop-place-test.false)

pub returns-clause-tests : goal.returns-clause-tests
returns-clause-tests c =
    nowhere (λ entry. view entry) c.args.entries.now (λ at entry. ¬ IsTableOf (map (λ key. key.now) c.args.known.now) entry)
    (λ at low. c.loop-place.invariant.1 at (omega (arith, low, c.loop-place-test.false)))
