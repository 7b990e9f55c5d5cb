use Rattle.sift_parse.proofs.lemmas.Sound.{task_is_sound}
use Rattle.sift_parse.proofs.task.task_is_sound.Goals as goal

pub returns : goal.returns
returns c = task_is_sound
