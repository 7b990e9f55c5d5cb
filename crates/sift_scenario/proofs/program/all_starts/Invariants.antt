use Rattle.std.proofs.Common.{◌≡◌, take}
use Rattle.std.specs.List.{flat_map}
use Rattle.sift_scenario.proofs.program.all_starts.Given as goal

-- the words of the tasks so far
abbrev pub invariant-loop-words : goal.invariant-loop-words
invariant-loop-words l = l.all.items ≡ flat_map (λ words. words.items) (take l.words-index l.starts)
