use Rattle.std.proofs.Common.{◌∙◌, ap}
use Rattle.sift_mission.specs.Stops.{part_of}
use Rattle.sift_unit.specs.Boards.{desk_of}
use Rattle.sift_unit.proofs.Finding.{none_at_end, none_running}
use Rattle.sift_unit.proofs.board.Board.finds_unit.Goals as goal

-- at a part's end
pub returns-then-self-slots-clause-finds : goal.returns-then-self-slots-clause-finds
returns-then-self-slots-clause-finds c =
    none_at_end _ c.requires.fits (desk_of c.args.self.now) c.requires.range (c.if-self-slots.true ∙ c.slots.ensures)

-- where tasks are run
pub returns-in-Running-clause-finds : goal.returns-in-Running-clause-finds
returns-in-Running-clause-finds c = none_running _ c.requires.fits (desk_of c.args.self.now) c.requires.range (ap part_of c.in-Running.is)
