use Rattle.std.proofs.Common.{arith}
use Rattle.std.proofs.lemmas.Grind.{common_steps}
use Rattle.sift_parse.proofs.token.Tokens.operator.Goals as goal

pub returns-in-Operator : goal.returns-in-Operator
returns-in-Operator c = grind (arith, common_steps)
