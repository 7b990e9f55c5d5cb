use Rattle.sift_parse.proofs.Places.EndLaws.{expressions_end_nothing, blocks_end_no_block}
use Rattle.sift_parse.proofs.task.what_ends_nothing.Goals as goal

pub returns : goal.returns
returns c = record { expressions = expressions_end_nothing; blocks = blocks_end_no_block }
