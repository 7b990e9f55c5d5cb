use Rattle.std.proofs.Common.{◌≡◌, take}
use Rattle.sift_base.specs.Shapes.{shapes_of}
use Rattle.sift_script.specs.Script.{outputs_of}
use Rattle.sift_script.proofs.script.Parts.of.Given as goal

-- the numbers of the tasks so far
abbrev pub invariant-loop-task : goal.invariant-loop-task
invariant-loop-task l = l.outputs.items ≡ take l.task-index (outputs_of (shapes_of l.shapes))
