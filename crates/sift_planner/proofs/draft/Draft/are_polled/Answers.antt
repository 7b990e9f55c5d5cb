use Rattle.std.proofs.Common.{arith}
use Rattle.std.proofs.lemmas.Grind.{common_steps}
use Rattle.sift_planner.proofs.draft.Draft.are_polled.Goals as goal

pub returns-then-index-subframe : goal.returns-then-index-subframe
returns-then-index-subframe c = grind (arith, common_steps)
