use Rattle.std.proofs.Common.{◌≡◌, ◌+◌, ◌≤◌, drop}
use Rattle.sift_code.specs.Bound.{kept, kept_limit}
use Rattle.sift_lang.specs.Tree.{block_of}
use Rattle.sift_compile.specs.Length.{block_takes, repeat_takes}
use Rattle.sift_compile.proofs.emit.+taking.Given as goal

-- what was counted, and what is left
abbrev pub invariant-block_takes-loop-statement : goal.invariant-block_takes-loop-statement
invariant-block_takes-loop-statement l =
    record {
      left : kept (l.taken + block_takes (repeat_takes l.count) (block_of (drop l.statement-index l.block))) ≡ kept (block_takes (repeat_takes l.count) (block_of l.block));
      few : l.taken ≤ kept_limit;
    }
