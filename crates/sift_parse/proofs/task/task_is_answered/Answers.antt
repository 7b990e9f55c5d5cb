use Rattle.sift_parse.proofs.lemmas.OneAnswer.{task_is_answered}
use Rattle.sift_parse.proofs.task.task_is_answered.Goals as goal

pub returns : goal.returns
returns c = task_is_answered
