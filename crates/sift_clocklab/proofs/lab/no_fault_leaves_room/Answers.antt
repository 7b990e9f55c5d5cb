use Rattle.sift_clocklab.proofs.Margins.{no_fault_leaves_room}
use Rattle.sift_clocklab.proofs.lab.no_fault_leaves_room.Goals as goal

pub returns : goal.returns
returns c = no_fault_leaves_room
