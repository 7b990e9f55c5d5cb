use Rattle.std.proofs.Common.{inr, refl, rules}
use Rattle.sift_reply.proofs.call.give.Goals as goal

-- the status says that the sink failed
pub returns-in-Err-Failed : goal.returns-in-Err-Failed
returns-in-Err-Failed g c = inr (refl, search rules, search rules)
