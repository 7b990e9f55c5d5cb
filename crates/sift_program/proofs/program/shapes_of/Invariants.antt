use Rattle.std.proofs.Common.{◌≡◌, map, take}
use Rattle.sift_base.specs.Shapes.{shape_of}
use Rattle.sift_lang.specs.Tree.{tree_of}
use Rattle.sift_program.specs.Program.{shapes_from}
use Rattle.sift_program.proofs.program.shapes_of.Given as goal

-- the shapes of the tasks so far
abbrev pub invariant-loop-place : goal.invariant-loop-place
invariant-loop-place l =
    let trees = map tree_of l.program.tasks.items in
    map shape_of l.tasks.items ≡ take l.place (shapes_from trees 0 trees)
