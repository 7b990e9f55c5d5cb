use Rattle.std.proofs.Common.{arith}
use Rattle.std.proofs.lemmas.Grind.{common_steps}
use Rattle.sift_report.proofs.votes.tells.Goals as goal

pub returns-then-works : goal.returns-then-works
returns-then-works c = grind (arith, common_steps)
