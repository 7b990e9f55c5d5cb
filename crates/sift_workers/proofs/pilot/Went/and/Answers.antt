use Rattle.std.proofs.Common.{arith}
use Rattle.std.proofs.lemmas.Grind.{common_steps}
use Rattle.sift_workers.proofs.pilot.Went.and.Goals as goal

pub returns-in-Home-default-clause-home : goal.returns-in-Home-default-clause-home
returns-in-Home-default-clause-home c = grind (arith, common_steps)
