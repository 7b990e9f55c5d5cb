use Rattle.std.proofs.Common.{arith}
use Rattle.std.proofs.lemmas.Grind.{common_steps}
use Rattle.sift_script.proofs.checked.broken_rule.Goals as goal

pub returns-then-not-fails_in_mission-clause-broken : goal.returns-then-not-fails_in_mission-clause-broken
returns-then-not-fails_in_mission-clause-broken c = grind (arith, common_steps)

pub returns-clause-met : goal.returns-clause-met
returns-clause-met c = grind (arith, common_steps)

pub returns-then-not-has_places-clause-broken : goal.returns-then-not-has_places-clause-broken
returns-then-not-has_places-clause-broken c = grind (arith, common_steps)
