use Rattle.std.proofs.Common.{arith}
use Rattle.std.proofs.lemmas.Grind.{common_steps}
use Rattle.sift_parse.proofs.force.Force.after_mark.Goals as goal

pub returns-in_ok-push-in-OpenBrace : goal.returns-in_ok-push-in-OpenBrace
returns-in_ok-push-in-OpenBrace c = grind (arith, common_steps)

pub returns-in_ok-push-in-OpenParen : goal.returns-in_ok-push-in-OpenParen
returns-in_ok-push-in-OpenParen c = grind (arith, common_steps)
