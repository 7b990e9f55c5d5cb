use Rattle.std.proofs.Common.{◌≡◌, length, map}
use Rattle.sift_lang.specs.Tree.{tree_of}
use Rattle.sift_parse.specs.Roll.{roll_of}
use Rattle.sift_compile.specs.Tasks.{AreCodesOf}
use Rattle.sift_document.specs.Rules.{EachMatches}
use Rattle.sift_scenario.specs.Program.{AreAllowed, IsTreeOf, steps_left, turn_of}
use Rattle.sift_scenario.specs.Testing.{form_of}
use Rattle.sift_scenario.proofs.program.compile_tasks.Given as goal

-- the trees and codes so far, and the steps that they leave; of the names only the turn changes
abbrev pub invariant-loop-task : goal.invariant-loop-task
invariant-loop-task l =
    (length l.trees.items ≡ l.task)
    × (l.names.sensors ≡ l.initial.names.sensors)
    × (l.names.tasks ≡ l.initial.names.tasks)
    × EachMatches (λ task form tree. IsTreeOf (turn_of task (roll_of l.initial.names)) form tree) (map form_of l.forms) (map tree_of l.trees.items)
    × AreAllowed (map tree_of l.trees.items)
    × (l.left ≡ steps_left (map tree_of l.trees.items))
    × AreCodesOf l.sensors l.words (map tree_of l.trees.items) l.codes.items
