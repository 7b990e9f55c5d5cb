use Rattle.std.proofs.Common.{arith}
use Rattle.std.proofs.lemmas.Grind.{common_steps}
use Rattle.sift_jobs.proofs.plan.PlanJob.reply_for.Goals as goal

pub shapes_of-requires-clause-program : goal.shapes_of-requires-clause-program
shapes_of-requires-clause-program c = grind (arith, common_steps)
