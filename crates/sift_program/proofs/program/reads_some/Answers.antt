use Rattle.std.proofs.Common.{◌≡◌, ◌<◌, ◌+◌, ◌-◌, ◌∙◌, get_or, take, true, false, sym, ap, refl, arith}
use Rattle.std.proofs.lemmas.List.{take_all}
use Rattle.std.proofs.lemmas.List.Folds.{list_any_at, list_any_more}
use Rattle.std.proofs.lemmas.List.FromFn.{get_or-range_with_len, length-range_with_len}
use Rattle.std.specs.List.{list_any, range_with_len}
use Rattle.sift_lang.specs.Tree.{tree_of}
use Rattle.sift_program.specs.laws.ShapeLists.{reads_word}
use Rattle.sift_program.proofs.program.reads_some.Goals as goal

-- the task reads a word
pub returns-then-block_reads : goal.returns-then-block_reads
returns-then-block_reads c =
    let words = range_with_len c.args.first c.args.count in
    let i = c.loop-word.word - c.args.first in
    let low : i < c.args.count = omega (arith, c.loop-word.auto.word, c.loop-word-test.true) in
    let at : c.args.first + i ≡ c.loop-word.word = omega (arith, c.loop-word.auto.word) in
    let here : get_or words i 0 ≡ c.loop-word.word = get_or-range_with_len c.args.first c.args.count i 0 low ∙ at in
    let read : reads_word (tree_of c.args.task.now) c.loop-word.word ≡ true = rw (← c.deref.ensures.value) (sym c.block_reads.ensures ∙ c.if-block_reads.true) in
    sym (list_any_at (reads_word (tree_of c.args.task.now)) words i 0 (rw length-range_with_len low) (ap (reads_word (tree_of c.args.task.now)) here ∙ read))

-- a word more isn't read
pub loop-word-preserved : goal.loop-word-preserved
loop-word-preserved c =
    let words = range_with_len c.args.first c.args.count in
    let i = c.loop-word.word - c.args.first in
    let low : i < c.args.count = omega (arith, c.loop-word.auto.word, c.loop-word-test.true) in
    let at : c.args.first + i ≡ c.loop-word.word = omega (arith, c.loop-word.auto.word) in
    let next : c.loop-word.word + 1 - c.args.first ≡ i + 1 = omega (arith, c.loop-word.auto.word) in
    let here : get_or words i 0 ≡ c.loop-word.word = get_or-range_with_len c.args.first c.args.count i 0 low ∙ at in
    let read : reads_word (tree_of c.args.task.now) c.loop-word.word ≡ false = rw (← c.deref.ensures.value) (sym c.block_reads.ensures ∙ c.if-block_reads.false) in
    rw (next, list_any_more (reads_word (tree_of c.args.task.now)) words i 0 (rw length-range_with_len low), c.loop-word.invariant, here, read) refl

-- no word is read
pub returns : goal.returns
returns c =
    let words = range_with_len c.args.first c.args.count in
    let i = c.loop-word.word - c.args.first in
    let all : take i words ≡ words = take_all i words (rw length-range_with_len (omega (arith, c.loop-word.auto.word, c.loop-word-test.false))) in
    sym (ap (list_any (reads_word (tree_of c.args.task.now))) (sym all) ∙ c.loop-word.invariant)
