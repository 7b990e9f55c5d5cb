use Rattle.std.proofs.Common.{map, string_bytes}
use Rattle.sift_alone.proofs.top.sift_by.Goals as goal

-- the fleet has the rogues that were handed in
pub returns-clause-answered : goal.returns-clause-answered
returns-clause-answered g c = rw (← c.of-fleet.ensures) c.answer.ensures.answered

pub returns-clause-certain : goal.returns-clause-certain
returns-clause-certain g c = rw (← c.of-fleet.ensures) c.answer.ensures.certain

-- the headline follows from what is answered
pub returns-clause-headline : goal.returns-clause-headline
returns-clause-headline g c = rw (← c.of-fleet.ensures)
    (c.the_headline_is_written.ensures c.of-fleet.result (map string_bytes c.args.words.now)
    (record { before = g.S.Source.inflow c.args.source.now; after = g.S.Source.inflow c.answer.new.source })
    (record { before = g.K.Sink.outflow c.args.sink.now; after = g.K.Sink.outflow c.answer.new.sink })
    c.answer.result c.answer.ensures.answered)

-- and what lies cost
pub returns-clause-caught : goal.returns-clause-caught
returns-clause-caught g c = rw (← c.of-fleet.ensures)
    (c.the_caught_are_written.ensures c.of-fleet.result (map string_bytes c.args.words.now)
    (record { before = g.S.Source.inflow c.args.source.now; after = g.S.Source.inflow c.answer.new.source })
    (record { before = g.K.Sink.outflow c.args.sink.now; after = g.K.Sink.outflow c.answer.new.sink })
    c.answer.result c.answer.ensures.answered)

-- words that ask for no input ask for none by these rogues
pub returns-clause-unread : goal.returns-clause-unread
returns-clause-unread g c = rw (← c.of-fleet.ensures) c.answer.ensures.unread
