use Rattle.std.proofs.Common.{◌≡◌, ◌∙◌, sym, ap, true, false, refl}
use Rattle.std.proofs.Math.ListN.{drop_of_length-le}
use Rattle.sift_lang.specs.Tree.{block_of, statement_of}
use Rattle.sift_lang.specs.laws.Rounds.{block_of-drop}
use Rattle.sift_program.specs.Program.{block_reads, statement_reads}
use Rattle.sift_program.proofs.program.+reading.Goals as goal

-- a statement reads the word
pub block_reads-returns-then-statement_reads : goal.block_reads-returns-then-statement_reads
block_reads-returns-then-statement_reads t c =
    let front = block_of-drop c.args.block.now c.loop-statement.statement-index c.statement-item.result c.loop-statement-test.true c.statement-item.is in
    let here : statement_reads c.args.word (statement_of c.statement-item.result) ≡ true = sym c.statement_reads.ensures ∙ c.if-statement_reads.true in
    rw (c.loop-statement.invariant, front, here) refl

-- one statement more doesn't
pub block_reads-loop-statement-preserved : goal.block_reads-loop-statement-preserved
block_reads-loop-statement-preserved t c =
    let front = block_of-drop c.args.block.now c.loop-statement.statement-index c.statement-item.result c.loop-statement-test.true c.statement-item.is in
    let here : statement_reads c.args.word (statement_of c.statement-item.result) ≡ false = sym c.statement_reads.ensures ∙ c.if-statement_reads.false in
    rw (c.loop-statement.invariant, front, here) refl

-- none does
pub block_reads-returns : goal.block_reads-returns
block_reads-returns t c =
    let none = drop_of_length-le c.args.block.now c.loop-statement-test.false in
    sym (c.loop-statement.invariant ∙ ap (λ rest. block_reads c.args.word (block_of rest)) none)
