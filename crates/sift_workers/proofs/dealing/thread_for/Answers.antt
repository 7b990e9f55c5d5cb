use Rattle.std.proofs.Common.{arith}
use Rattle.std.proofs.lemmas.Grind.{common_steps}
use Rattle.sift_workers.proofs.dealing.thread_for.Goals as goal

pub returns-clause-thread : goal.returns-clause-thread
returns-clause-thread c = grind (arith, common_steps)
