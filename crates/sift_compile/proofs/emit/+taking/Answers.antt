use Rattle.std.proofs.Common.{◌≡◌, ◌+◌, [], drop, ap, arith}
use Rattle.std.proofs.Math.ListN.{drop_of_length-le}
use Rattle.std.proofs.lemmas.Grind.{common_steps}
use Rattle.sift_lang.specs.Tree.{block_of}
use Rattle.sift_code.specs.Bound.{kept}
use Rattle.sift_compile.specs.Length.{block_takes, repeat_takes}
use Rattle.sift_compile.proofs.emit.+taking.Goals as goal

-- nothing is left
pub block_takes-returns : goal.block_takes-returns
block_takes-returns t c =
    let block = c.args.block.now in
    let i = c.loop-statement.statement-index in
    let none : drop i block ≡ [] = drop_of_length-le block (omega arith) in
    let whole = ap (λ rest. kept (c.loop-statement.taken + block_takes (repeat_takes c.args.count) (block_of rest))) none in
    omega (arith, whole, c.loop-statement.invariant.left, c.loop-statement.invariant.few)

pub block_takes-loop-statement-preserved : goal.block_takes-loop-statement-preserved
block_takes-loop-statement-preserved c = grind (arith, common_steps)
