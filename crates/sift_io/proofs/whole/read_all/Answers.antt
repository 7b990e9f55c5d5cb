use Rattle.std.proofs.Common.{◌+◌, length-take, arith, rules}
use Rattle.sift_io.specs.Reading.{TakesAtMost}
use Rattle.sift_io.proofs.Stops.{TakesAtMost-more, TakesExactly-more}
use Rattle.sift_io.proofs.whole.read_all.Goals as goal

-- the byte past the limit was taken
pub returns-in-Taken-clause-stopped : goal.returns-in-Taken-clause-stopped
returns-in-Taken-clause-stopped g c =
    let inflow = g.S.Source.inflow in
    let within = c.in-Taken.ensures.within.1 in
    let room = length-take c.min-room.result c.loop-n.piece in
    let taken =
    TakesExactly-more (inflow c.args.source.now) (inflow c.loop-n.source) (inflow c.read.new.self)
    c.loop-n.all.items c.read.new.buf c.in-Taken.n (c.args.limit + 1)
    c.loop-n.invariant.0 c.in-Taken.ensures.bytes (omega (arith, within)) (omega (arith, within, room)) in
    (taken, grind arith)

-- there was no memory for what this read gave
pub returns-in_err-extend_from_slice-in-Taken-2-clause-stopped :
    goal.returns-in_err-extend_from_slice-in-Taken-2-clause-stopped
returns-in_err-extend_from_slice-in-Taken-2-clause-stopped g c =
    let inflow = g.S.Source.inflow in
    let within : TakesAtMost (inflow c.args.source.now) (inflow c.read.new.self) c.args.limit =
    TakesAtMost-more (inflow c.args.source.now) (inflow c.loop-n.source) (inflow c.read.new.self)
    c.loop-n.all.items c.read.new.buf c.in-Taken-2.n c.args.limit
    c.loop-n.invariant.0 c.in-Taken-2.ensures.bytes (omega arith) in
    let no_memory = c.from_residual.ensures in
    search rules
