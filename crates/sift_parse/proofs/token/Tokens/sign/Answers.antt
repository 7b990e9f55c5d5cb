use Rattle.std.proofs.Common.{arith}
use Rattle.std.proofs.lemmas.Grind.{common_steps}
use Rattle.sift_parse.proofs.token.Tokens.sign.Goals as goal

pub returns-in-Sign : goal.returns-in-Sign
returns-in-Sign c = grind (arith, common_steps)
