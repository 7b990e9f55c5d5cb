use Rattle.std.proofs.Common.{below_more, arith}
use Rattle.toml.specs.View.{view}
use Rattle.sift_document.specs.laws.Places.{fails_here, holds_here, nowhere}
use Rattle.sift_document.specs.laws.Testing.{first_broken}
use Rattle.sift_byz.specs.Testing.{Keeps, number_of}
use Rattle.sift_byz.proofs.Testing.{not_both, place_fits}
use Rattle.sift_byz.proofs.lies.check_each.Goals as goal

-- this entry is the first that doesn't keep the rule
pub returns-then-not-keeps : goal.returns-then-not-keeps
returns-then-not-keeps c =
    rw (c.broken.ensures, c.number_of.ensures)
    (first_broken (number_of c.args.rule) _ _
    (holds_here (λ entry. view entry) c.args.entries.now (λ at lie. ¬ Keeps c.args.rule lie) _ _
    c.loop-place-test.true c.index-entries-place.is (λ kept. not_both (c.keeps.ensures.1 kept) c.if-not-keeps.true))
    c.loop-place.invariant)

-- one entry more keeps it
pub loop-place-preserved : goal.loop-place-preserved
loop-place-preserved c =
    below_more _ _ c.loop-place.invariant
    (fails_here (λ entry. view entry) c.args.entries.now (λ at lie. ¬ Keeps c.args.rule lie) _ _
    c.loop-place-test.true c.index-entries-place.is (λ not_kept. not_kept (c.keeps.ensures.0 c.if-not-keeps.false)))

-- all do
pub returns : goal.returns
returns c =
    nowhere (λ entry. view entry) c.args.entries.now (λ at lie. ¬ Keeps c.args.rule lie)
    (λ at low. c.loop-place.invariant at (omega (arith, low, c.loop-place-test.false)))

pub broken-requires : goal.broken-requires
broken-requires c = place_fits c.loop-place-test.true c.requires.few
