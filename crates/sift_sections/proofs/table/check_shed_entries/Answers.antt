use Rattle.std.proofs.Common.{◌≡◌, true, false, None, below_more, arith}
use Rattle.toml.specs.View.{view}
use Rattle.sift_document.specs.Document.{members_of}
use Rattle.sift_document.specs.laws.Places.{fails_here, holds_here, nowhere}
use Rattle.sift_document.specs.laws.Testing.{first_broken}
use Rattle.sift_sections.specs.Table.{shed_of}
use Rattle.sift_sections.proofs.table.check_shed_entries.Goals as goal

-- an entry says what it sheds, but not by numbers of tasks
pub returns-then-wrong : goal.returns-then-wrong
returns-then-wrong c =
    rw c.broken.ensures
    (first_broken 31 _ _
    (holds_here (λ entry. members_of (view entry)) c.args.entries.now (λ at table. shed_of table ≡ None) _ _
    c.loop-place-test.true c.index-entries-place.is (c.in_ok-wrong.ensures.0 c.if-wrong.true))
    c.loop-place.invariant)

-- an entry more doesn't
pub loop-place-preserved : goal.loop-place-preserved
loop-place-preserved c =
    below_more _ _ c.loop-place.invariant
    (fails_here (λ entry. members_of (view entry)) c.args.entries.now (λ at table. shed_of table ≡ None) _ _
    c.loop-place-test.true c.index-entries-place.is
    (λ none. let wrong : false ≡ true = rw c.if-wrong.false at c.in_ok-wrong.ensures.1 none in cc wrong))

-- all entries were tested
pub returns : goal.returns
returns c =
    nowhere (λ entry. members_of (view entry)) c.args.entries.now (λ at table. shed_of table ≡ None)
    (λ at low. c.loop-place.invariant at (omega (arith, low, c.loop-place-test.false)))
