use Rattle.sift_compile.proofs.Sound.{code_is_sound}
use Rattle.sift_compile.proofs.compiler.compiled_code_is_sound.Goals as goal

-- nothing offends in the code of a sound task
pub returns : goal.returns
returns c = code_is_sound
