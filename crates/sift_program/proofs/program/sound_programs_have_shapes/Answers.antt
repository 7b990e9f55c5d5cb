use Rattle.sift_program.proofs.SoundShapes.{sound_shapes}
use Rattle.sift_program.proofs.program.sound_programs_have_shapes.Goals as goal

pub returns : goal.returns
returns c = sound_shapes
