use Rattle.std.proofs.Common.{◌≡◌, ◌+◌, ◌++◌, take, drop}
use Rattle.sift_unit_frame.proofs.word_file.write.Given as goal

-- the first words are written
abbrev pub invariant-loop-i : goal.invariant-loop-i
invariant-loop-i l = l.list ≡ take l.at l.initial.list ++ (take l.i l.words ++ drop (l.at + l.i) l.initial.list)
