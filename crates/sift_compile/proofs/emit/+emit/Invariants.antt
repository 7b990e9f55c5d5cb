use Rattle.std.proofs.Common.{◌≡◌, ◌++◌, length, drop}
use Rattle.sift_lang.specs.Tree.{block_of}
use Rattle.sift_compile.specs.Code.{block_code}
use Rattle.sift_compile.specs.Length.{AreSoundFor}
use Rattle.sift_compile.proofs.emit.+emit.Given as goal

-- what was emitted, and what is left
abbrev pub invariant-emit_block-loop-statement : goal.invariant-emit_block-loop-statement
invariant-emit_block-loop-statement l =
    let rest = block_of (drop l.statement-index l.block) in
    record {
      emitted : l.code.items ++ block_code (length l.code.items) l.live rest ≡ l.initial.code.items ++ block_code (length l.initial.code.items) l.locals (block_of l.block);
      sound : AreSoundFor l.live rest;
    }
