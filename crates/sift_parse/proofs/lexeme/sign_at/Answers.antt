use Rattle.std.proofs.Common.{arith}
use Rattle.std.proofs.lemmas.Grind.{common_steps}
use Rattle.sift_parse.proofs.lexeme.sign_at.Goals as goal

pub returns-2-clause-found : goal.returns-2-clause-found
returns-2-clause-found c = grind (arith, common_steps)

pub returns-clause-found : goal.returns-clause-found
returns-clause-found c = grind (arith, common_steps)
