use Rattle.std.proofs.Common.{◌≡◌, ◌*◌, ◌+◌, ◌≤◌, map, sum, take}
use Rattle.std.specs.List.{range_with_len}
use Rattle.sift_script.proofs.Lists.{first_word_of}
use Rattle.sift_script.proofs.script.first_words.Given as goal

-- the numbers of the tasks so far, and the number behind their words
abbrev pub invariant-loop-count : goal.invariant-loop-count
invariant-loop-count l =
    (l.firsts.items ≡ map (first_word_of l.counts) (range_with_len 0 (l.count-index + 1))) ×
    (l.first ≡ sum (take l.count-index l.counts)) × (l.first ≤ l.count-index * 255)
