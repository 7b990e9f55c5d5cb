use Rattle.std.proofs.Common.{◌++◌, take, arith}
use Rattle.std.proofs.KnownBytes.{Appends-trans}
use Rattle.sift_io.proofs.Stops.{Keeps-take_none, AddsPrefix-sent, append-take_rest}
use Rattle.sift_io.proofs.whole.write_all.Goals as goal

-- what this write took is sent too
pub loop-rest-preserved : goal.loop-rest-preserved
loop-rest-preserved g c =
    let sent = c.loop-rest.invariant.0 in
    let more = take c.in-Took.n c.loop-rest.rest.now in
    let added = Appends-trans _ _ _ sent.0 more sent.1 c.in-Took.ensures.bytes in
    ((sent.0 ++ more, added, append-take_rest sent.0 _ _ c.in-Took.n sent.2), grind arith)

-- the sink took nothing
pub returns-in-Took-eq0-clause-bytes : goal.returns-in-Took-eq0-clause-bytes
returns-in-Took-eq0-clause-bytes g c =
    let sent = c.loop-rest.invariant.0 in
    let kept = Keeps-take_none _ _ _ _ (omega arith) c.in-Took-eq0.ensures.bytes in
    let outflow = g.K.Sink.outflow in
    AddsPrefix-sent (outflow c.args.sink.now) (outflow c.loop-rest.sink) (outflow c.write.new.self) sent.0 _ _ sent.1 sent.2 kept

-- the sink failed
pub returns-in-Failed-clause-bytes : goal.returns-in-Failed-clause-bytes
returns-in-Failed-clause-bytes g c =
    let sent = c.loop-rest.invariant.0 in
    let outflow = g.K.Sink.outflow in
    AddsPrefix-sent (outflow c.args.sink.now) (outflow c.loop-rest.sink) (outflow c.write.new.self) sent.0 _ _ sent.1 sent.2 c.in-Failed.ensures.bytes
