use Rattle.std.proofs.Common.{inl, map, string_bytes}
use Rattle.sift_reply.proofs.Certain.{certain}
use Rattle.sift_reply.proofs.call.answer.Goals as goal

-- what was given is owed to what was read, so it is due to the bytes that were told
pub returns-in-Ok-clause-certain : goal.returns-in-Ok-clause-certain
returns-in-Ok-clause-certain g c =
    certain (record { asks = g.C.Asked.asks c.args.means; duty = g.C.Job.duty c.args.means }) (map string_bytes c.args.words.now)
    (record { before = g.S.Source.inflow c.args.source.now; after = g.S.Source.inflow c.owed.new.source })
    (record { before = g.K.Sink.outflow c.args.sink.now; after = g.K.Sink.outflow c.give.new.sink })
    c.give.result (inl (_, c.in-Ok.ensures.owed, c.give.ensures))
