use Rattle.std.proofs.Common.{◌++◌, length, ap, ◌∙◌, arith}
use Rattle.sift_lang.specs.Tree.{block_of, tree_of}
use Rattle.sift_compile.specs.Code.{block_code, task_program}
use Rattle.sift_compile.proofs.Sound.{code_is_sound}
use Rattle.sift_compile.proofs.Refused.{never_refused}
use Rattle.sift_compile.proofs.Lengths.{length-block_code}
use Rattle.sift_compile.proofs.compiler.check.Goals as goal

pub emit_block-requires-clause-room : goal.emit_block-requires-clause-room
emit_block-requires-clause-room c =
    rw (c.new-code.ensures.items, c.deref.ensures.value) (omega (arith, c.requires.short, length-block_code 0 0 (block_of c.args.task.now.body.items)))

pub no_memory-requires : goal.no_memory-requires
no_memory-requires c =
    let code = c.in_ok-emit_block.ensures
    ∙ (ap (λ l. l ++ block_code (length l) 0 (block_of c.deref.result.now)) c.new-code.ensures.items
    ∙ ap (λ l. block_code 0 0 (block_of l)) c.deref.ensures.value) in
    let program = task_program c.args.sensors c.args.words (tree_of c.args.task.now) in
    let sound = code_is_sound c.args.sensors c.args.words (tree_of c.args.task.now) c.requires.sound in
    never_refused program sound c.in-Err.bad (rw code at c.in-Err.ensures.refused)
