use Rattle.std.proofs.Common.{◌≡◌, ◌⊎◌, true, false, None, below_more, arith}
use Rattle.std.specs.Prelude.{codes}
use Rattle.toml.specs.View.{table_view}
use Rattle.sift_document.specs.laws.Places.{fails_here, holds_here, nowhere}
use Rattle.sift_document.specs.laws.Testing.{first_broken}
use Rattle.sift_sections.specs.Table.{subframes_at}
use Rattle.sift_sections.proofs.table.check_times.Goals as goal

-- a table doesn't say when
pub returns-then-timeless : goal.returns-then-timeless
returns-then-timeless c =
    rw c.broken.ensures
    (first_broken 24 _ _
    (holds_here (λ table. table_view table.now) c.args.tables.now (λ at table. (subframes_at (codes "run") table ≡ None) ⊎ (subframes_at (codes "poll") table ≡ None)) _ _
    c.loop-place-test.true c.index-tables-place.is (c.in_ok-timeless.ensures.0 c.if-timeless.true))
    c.loop-place.invariant)

-- a table more does
pub loop-place-preserved : goal.loop-place-preserved
loop-place-preserved c =
    below_more _ _ c.loop-place.invariant
    (fails_here (λ table. table_view table.now) c.args.tables.now (λ at table. (subframes_at (codes "run") table ≡ None) ⊎ (subframes_at (codes "poll") table ≡ None)) _ _
    c.loop-place-test.true c.index-tables-place.is
    (λ timeless. let wrong : false ≡ true = rw c.if-timeless.false at c.in_ok-timeless.ensures.1 timeless in cc wrong))

-- all tables were tested
pub returns : goal.returns
returns c =
    nowhere (λ table. table_view table.now) c.args.tables.now (λ at table. (subframes_at (codes "run") table ≡ None) ⊎ (subframes_at (codes "poll") table ≡ None))
    (λ at low. c.loop-place.invariant at (omega (arith, low, c.loop-place-test.false)))
