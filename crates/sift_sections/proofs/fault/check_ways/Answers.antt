use Rattle.std.proofs.Common.{◌≡◌, true, false, below_more, arith}
use Rattle.toml.specs.View.{table_view}
use Rattle.sift_document.specs.laws.Places.{fails_here, holds_here, nowhere}
use Rattle.sift_document.specs.laws.Testing.{first_broken}
use Rattle.sift_sections.specs.laws.Named.{HasOneWay}
use Rattle.sift_sections.proofs.fault.check_ways.Goals as goal

-- a fault doesn't fail in one way
pub returns-then-not-has_one_way : goal.returns-then-not-has_one_way
returns-then-not-has_one_way c =
    rw c.at.ensures
    (first_broken 28 _ _
    (holds_here (λ fault. table_view fault.now) c.args.tables.now (λ at fault. HasOneWay fault → ⊥) _ _
    c.loop-place-test.true c.index-tables-place.is
    (λ way. let wrong : false ≡ true = rw c.if-not-has_one_way.true at c.has_one_way.ensures.1 way in cc wrong))
    c.loop-place.invariant)

-- a fault more does
pub loop-place-preserved : goal.loop-place-preserved
loop-place-preserved c =
    below_more _ _ c.loop-place.invariant
    (fails_here (λ fault. table_view fault.now) c.args.tables.now (λ at fault. HasOneWay fault → ⊥) _ _
    c.loop-place-test.true c.index-tables-place.is (λ none. none (c.has_one_way.ensures.0 c.if-not-has_one_way.false)))

-- all faults were tested
pub returns : goal.returns
returns c =
    nowhere (λ fault. table_view fault.now) c.args.tables.now (λ at fault. HasOneWay fault → ⊥)
    (λ at low. c.loop-place.invariant at (omega (arith, low, c.loop-place-test.false)))
