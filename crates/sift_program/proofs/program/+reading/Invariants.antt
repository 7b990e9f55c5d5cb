use Rattle.std.proofs.Common.{◌≡◌, drop}
use Rattle.sift_lang.specs.Tree.{block_of}
use Rattle.sift_program.specs.Program.{block_reads}
use Rattle.sift_program.proofs.program.+reading.Given as goal

-- the block reads the word where the statements that are left do
abbrev pub invariant-block_reads-loop-statement : goal.invariant-block_reads-loop-statement
invariant-block_reads-loop-statement l = block_reads l.word (block_of l.block) ≡ block_reads l.word (block_of (drop l.statement-index l.block))
