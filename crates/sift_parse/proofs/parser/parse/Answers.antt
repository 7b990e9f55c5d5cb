use Rattle.sift_lang.specs.Tree.{block_of}
use Rattle.sift_parse.proofs.Parsing.Offending.{offends-at, task-read}
use Rattle.sift_parse.proofs.parser.parse.Goals as goal

pub overflow_sub-result : goal.overflow_sub-result
overflow_sub-result c = (offends-at c.args.all.now c.whole.new.tokens.rest.now (rw c.in-Err-Syntax.field-0-is at c.in-Err-Syntax.ensures)).0

pub returns-in-Ok : goal.returns-in-Ok
returns-in-Ok c = task-read c.args.all.now c.whole.new.tokens.rest.now (block_of c.in-Ok.body.items) c.in-Ok.ensures

pub returns-in-Err-Syntax : goal.returns-in-Err-Syntax
returns-in-Err-Syntax c = (offends-at c.args.all.now c.whole.new.tokens.rest.now (rw c.in-Err-Syntax.field-0-is at c.in-Err-Syntax.ensures)).1
