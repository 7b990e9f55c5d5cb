use Rattle.sift_planner.proofs.EachSize as laws
use Rattle.sift_planner.proofs.planning.one_size_without_room.Goals as goal

pub returns : goal.returns
returns c = laws.one_size_without_room
