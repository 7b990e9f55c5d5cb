use Rattle.std.proofs.Common.{◌≡◌, ◌-◌, false, take}
use Rattle.std.specs.List.{list_any, range_with_len}
use Rattle.sift_lang.specs.Tree.{tree_of}
use Rattle.sift_program.specs.laws.ShapeLists.{reads_word}
use Rattle.sift_program.proofs.program.reads_some.Given as goal

-- no word so far is read
abbrev pub invariant-loop-word : goal.invariant-loop-word
invariant-loop-word l = list_any (reads_word (tree_of l.task)) (take (l.word - l.first) (range_with_len l.first l.count)) ≡ false
