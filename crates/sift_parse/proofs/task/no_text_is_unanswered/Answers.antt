use Rattle.sift_parse.proofs.lemmas.Answered.{no_text_is_unanswered}
use Rattle.sift_parse.proofs.task.no_text_is_unanswered.Goals as goal

pub returns : goal.returns
returns c = no_text_is_unanswered
