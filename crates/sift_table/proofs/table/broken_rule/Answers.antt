use Rattle.std.proofs.Common.{arith}
use Rattle.std.proofs.lemmas.Grind.{common_steps}
use Rattle.sift_table.proofs.table.broken_rule.Goals as goal

pub returns-then-not-sheds-clause-broken : goal.returns-then-not-sheds-clause-broken
returns-then-not-sheds-clause-broken c = grind (arith, common_steps)
