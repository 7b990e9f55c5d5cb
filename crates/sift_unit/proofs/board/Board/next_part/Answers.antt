use Rattle.sift_mission.specs.Stops.{part_of}
use Rattle.sift_unit.specs.Boards.{desk_of}
use Rattle.sift_unit.proofs.Passing.{part_onward}
use Rattle.sift_unit.proofs.board.Board.next_part.Goals as goal

pub returns-clause-onward : goal.returns-clause-onward
returns-clause-onward c = part_onward _ c.requires.walks.fits (desk_of c.args.self.now) c.requires.walks.range (part_of c.next-self.result) c.requires.end c.requires.inside
    (c.next-self.ensures c.requires.inside)
