use Rattle.std.proofs.Common.{inl, inr, refl, rules}
use Rattle.sift_reread.specs.declared.ending.Ending.TheVariants.{TooLong}
use Rattle.sift_reread.proofs.Certain.{certain}
use Rattle.sift_reread.proofs.answer.answer.Goals as goal

-- the whole input was answered
pub returns-in-Ok-clause-answered : goal.returns-in-Ok-clause-answered
returns-in-Ok-clause-answered g c = inl (c.deref.result.now, search rules, c.answer_to.ensures.answered)

-- so it is certain of the bytes that were told
pub returns-in-Ok-clause-certain : goal.returns-in-Ok-clause-certain
returns-in-Ok-clause-certain g c =
    certain (g.S.Source.inflow c.args.source.now) (g.S.Source.inflow c.read_all.new.source) (g.K.Sink.outflow c.args.sink.now)
    (g.K.Sink.outflow c.answer_to.new.sink) c.answer_to.result (inl (c.deref.result.now, search rules, c.answer_to.ensures.answered))

-- the byte past the limit was read
pub returns-in-Err-TooLong-clause-answered : goal.returns-in-Err-TooLong-clause-answered
returns-in-Err-TooLong-clause-answered g c =
    let stopped = rw c.in-Err-TooLong.field-0-is at c.in-Err-TooLong.ensures.stopped in inr (inl (refl, stopped.0, refl))

-- so the bytes that were told are too many
pub returns-in-Err-TooLong-clause-certain : goal.returns-in-Err-TooLong-clause-certain
returns-in-Err-TooLong-clause-certain g c =
    let stopped = rw c.in-Err-TooLong.field-0-is at c.in-Err-TooLong.ensures.stopped in
    let out = g.K.Sink.outflow c.args.sink.now in
    certain (g.S.Source.inflow c.args.source.now) (g.S.Source.inflow c.read_all.new.source) out out TooLong (inr (inl (refl, stopped.0, refl)))
