use Rattle.std.proofs.Common.{length, below_more, arith}
use Rattle.sift_document.specs.laws.Testing.{first_broken}
use Rattle.sift_scenario.proofs.WordCounts.{sum_take-more}
use Rattle.sift_scenario.proofs.entries.check_words.Goals as goal

-- with this task there are too many words
pub returns-then-words-gt-WORD_LIMIT : goal.returns-then-words-gt-WORD_LIMIT
returns-then-words-gt-WORD_LIMIT c =
    let more = sum_take-more (λ words. length words.items) c.args.starts.now _ _ c.loop-place-test.true c.index-starts-place.is in
    rw c.at.ensures (first_broken 21 _ _
    (c.loop-place-test.true, omega (arith, more, c.loop-place.invariant.0, c.len-words.ensures.value, c.if-words-gt-WORD_LIMIT.true))
    c.loop-place.invariant.2)

-- with this task there aren't
pub loop-place-preserved : goal.loop-place-preserved
loop-place-preserved c =
    let more = sum_take-more (λ words. length words.items) c.args.starts.now _ _ c.loop-place-test.true c.index-starts-place.is in (
      omega (arith, more, c.loop-place.invariant.0, c.len-words.ensures.value),
      omega (arith, c.if-words-gt-WORD_LIMIT.false),
      below_more _ _ c.loop-place.invariant.2
          (λ broken. omega (arith, broken.1, more, c.loop-place.invariant.0, c.len-words.ensures.value, c.if-words-gt-WORD_LIMIT.false)),
    )
