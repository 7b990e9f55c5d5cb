use Rattle.std.proofs.Common.{◌≡◌, take}
use Rattle.sift_pool.specs.Region.{words_at}
use Rattle.sift_unit_frame.proofs.word_file.load.Given as goal

-- the first words are read
abbrev pub invariant-loop-i : goal.invariant-loop-i
invariant-loop-i g l = l.words.items ≡ take l.i (words_at l.pool l.span.number)
