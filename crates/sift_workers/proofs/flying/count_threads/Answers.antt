use Rattle.std.proofs.Common.{arith}
use Rattle.std.proofs.lemmas.Grind.{common_steps}
use Rattle.sift_workers.proofs.flying.count_threads.Goals as goal

pub returns-in-Ok-try_from-clause-two : goal.returns-in-Ok-try_from-clause-two
returns-in-Ok-try_from-clause-two g c = grind (arith, common_steps)
