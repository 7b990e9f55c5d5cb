use Rattle.std.proofs.Common.{refl}
use Rattle.sift_scenario.proofs.document.period_of.Goals as goal

-- as many as stated
pub returns-in-Some : goal.returns-in-Some
returns-in-Some c = rw c.in-Some.is refl
