use Rattle.std.proofs.Common.{◌≤◌}
use Rattle.sift_mission.specs.Parts.{flown_of}
use Rattle.sift_unit.specs.Passing.{Passes, left}
use Rattle.sift_unit.specs.Boards.{desk_of, IsSameBoard}
use Rattle.sift_unit.proofs.board.Board.find_call.Given as goal

-- so far the board has passed places at which nothing is to be said or heard
abbrev pub invariant-loop-self : goal.invariant-loop-self
invariant-loop-self l =
    Passes (flown_of l.mission) (desk_of l.fn.self) (desk_of l.self)
    × (left (desk_of l.self) ≤ left (desk_of l.fn.self)) × IsSameBoard l.fn.self l.self

abbrev pub decreases-loop-self : goal.decreases-loop-self
decreases-loop-self l = left (desk_of l.self)
