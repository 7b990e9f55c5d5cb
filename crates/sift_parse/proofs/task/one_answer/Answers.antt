use Rattle.sift_parse.proofs.lemmas.OneAnswer.{one_answer}
use Rattle.sift_parse.proofs.task.one_answer.Goals as goal

pub returns : goal.returns
returns c = one_answer
