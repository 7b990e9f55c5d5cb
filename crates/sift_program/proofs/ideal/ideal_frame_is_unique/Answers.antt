use Rattle.sift_program.proofs.lemmas.Unique.{ideal_frame-unique}
use Rattle.sift_program.proofs.ideal.ideal_frame_is_unique.Goals as goal

pub returns : goal.returns
returns c = ideal_frame-unique
