use Rattle.sift_core.proofs.EndedFrames.{ended_round}
use Rattle.sift_core.proofs.machine.ended_frames_are_round.Goals as goal

pub returns : goal.returns
returns c = ended_round c.boards_that_step_keep_to_their_conduct.ensures c.boards_drive_beside_strays.ensures
    c.lawful_cores_hear_lawfully.ensures c.landed_frames_are_round.ensures
