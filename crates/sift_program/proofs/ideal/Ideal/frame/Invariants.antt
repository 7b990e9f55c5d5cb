use Rattle.std.proofs.Common.{◌≡◌, map}
use Rattle.sift_lang.specs.Tree.{tree_of}
use Rattle.sift_program.specs.Ideal.{words_made}
use Rattle.sift_program.proofs.ideal.Ideal.frame.Given as goal

-- the tasks so far have made their words
abbrev pub invariant-loop-number : goal.invariant-loop-number
invariant-loop-number l =
    l.made.items ≡ words_made (map tree_of l.program.tasks.items) l.self-inside.words.items l.agreed l.shed l.number
