use Rattle.std.proofs.Common.{◌≡◌, ◌≤◌, take, map, sum}
use Rattle.sift_parse.proofs.scan.first_word.Given as goal

-- the words of the tasks so far, none of which is the one asked for
abbrev pub invariant-loop-i : goal.invariant-loop-i
invariant-loop-i l = (l.i ≤ l.task) × (l.words ≡ sum (take l.i (map (λ t. t.1) l.names.tasks.items)))
