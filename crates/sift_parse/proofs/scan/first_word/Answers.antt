use Rattle.std.proofs.Common.{rules, arith}
use Rattle.std.proofs.lemmas.Grind.{common_steps}
use Rattle.sift_parse.proofs.Places.Newest.{sum-taken}
use Rattle.sift_parse.proofs.scan.first_word.Goals as goal

pub loop-i-preserved : goal.loop-i-preserved
loop-i-preserved c = (omega (arith, c.if-i-task.false), first_of (grind (arith, common_steps, sum-taken), search (rules, sum-taken)))

pub returns : goal.returns
returns c = grind (arith, common_steps)

pub overflow_add-words : goal.overflow_add-words
overflow_add-words c = grind (arith, common_steps)
