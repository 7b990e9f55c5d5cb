use Rattle.std.proofs.Common.{arith}
use Rattle.std.proofs.lemmas.Grind.{common_steps}
use Rattle.sift_parse.proofs.force.Force.refusal_of.Goals as goal

pub returns-then-is_later-clause-found : goal.returns-then-is_later-clause-found
returns-then-is_later-clause-found c = grind (arith, common_steps)

pub returns-then-has_many_rounds-clause-found : goal.returns-then-has_many_rounds-clause-found
returns-then-has_many_rounds-clause-found c = grind (arith, common_steps)

pub returns-then-is_long_name-clause-found : goal.returns-then-is_long_name-clause-found
returns-then-is_long_name-clause-found c = grind (arith, common_steps)

pub returns-then-has_many_locals-clause-found : goal.returns-then-has_many_locals-clause-found
returns-then-has_many_locals-clause-found c = grind (arith, common_steps)

pub returns-then-is_large_number-clause-found : goal.returns-then-is_large_number-clause-found
returns-then-is_large_number-clause-found c = grind (arith, common_steps)

pub returns-then-is_unknown-clause-found : goal.returns-then-is_unknown-clause-found
returns-then-is_unknown-clause-found c = grind (arith, common_steps)
