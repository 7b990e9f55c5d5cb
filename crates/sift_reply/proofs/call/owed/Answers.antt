use Rattle.std.proofs.Common.{inl}
use Rattle.sift_reply.proofs.call.owed.Goals as goal

-- words that are no command line are owed `usage`
pub returns-in-None-clause-owed : goal.returns-in-None-clause-owed
returns-in-None-clause-owed g c = inl (λ asked. c.in-None.ensures.none c.args.means asked.0 asked.1, (cc))
