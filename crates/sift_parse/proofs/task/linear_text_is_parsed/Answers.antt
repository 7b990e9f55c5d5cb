use Rattle.sift_parse.proofs.Printing.Linear.{linear_text_is_parsed}
use Rattle.sift_parse.proofs.task.linear_text_is_parsed.Goals as goal

pub returns : goal.returns
returns c = linear_text_is_parsed
