use Rattle.std.proofs.Common.{◌≡◌, take, map}
use Rattle.sift_lang.specs.Tree.{tree_of}
use Rattle.sift_mission.specs.ByWord.{by_word}
use Rattle.sift_mission.proofs.mission.tasks_by_word.Given as goal

-- the words of the tasks so far have their tasks
abbrev pub invariant-loop-t : goal.invariant-loop-t
invariant-loop-t l = l.by_word.items ≡ by_word 0 (take l.t (map tree_of l.tasks))
