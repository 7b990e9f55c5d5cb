use Rattle.sift_planner.proofs.Room as laws
use Rattle.sift_planner.proofs.planning.long_frames_have_room.Goals as goal

pub returns : goal.returns
returns c = laws.long_frames_have_room
