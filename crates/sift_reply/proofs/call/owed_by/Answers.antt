use Rattle.std.proofs.Common.{inr, arith}
use Rattle.std.proofs.lemmas.Grind.{common_steps}
use Rattle.sift_reply.specs.Reply.{Input}
use Rattle.sift_reply.proofs.Inputs.{owes_within}
use Rattle.sift_reply.proofs.Own.{no_want}
use Rattle.sift_reply.proofs.call.owed_by.Goals as goal

-- what a job gives has a status of its own
pub returns-in_default-clause-other : goal.returns-in_default-clause-other
returns-in_default-clause-other g c = no_want _ _ c.given_by.result c.given_by.ensures (c.requires.own _)

pub returns-in-Ok-clause-other : goal.returns-in-Ok-clause-other
returns-in-Ok-clause-other g c = no_want _ _ c.given_by-in-Ok.result c.given_by-in-Ok.ensures (c.requires.own _)

-- a fault of the source is owed the reply to one
pub returns-in-Err-Failed-clause-owed : goal.returns-in-Err-Failed-clause-owed
returns-in-Err-Failed-clause-owed g c =
    let stopped = rw c.in-Err-Failed.field-0-is at c.in-Err-Failed.ensures.stopped in
    let input : Input = record { before = g.S.Source.inflow c.args.source.now; after = g.S.Source.inflow c.read_all.new.source } in
    owes_within c.in-Some.limit (g.J.Job.duty c.args.means c.args.job) input _ (c.in-Some.ensures c.args.means) (inr (inr ((cc), stopped.0, stopped.1)))

pub returns-in-Ok-clause-owed : goal.returns-in-Ok-clause-owed
returns-in-Ok-clause-owed g c = grind (arith, common_steps)
