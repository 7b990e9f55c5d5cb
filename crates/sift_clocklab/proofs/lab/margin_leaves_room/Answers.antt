use Rattle.sift_clocklab.proofs.Margins.{margin_leaves_room}
use Rattle.sift_clocklab.proofs.lab.margin_leaves_room.Goals as goal

pub returns : goal.returns
returns c = margin_leaves_room
