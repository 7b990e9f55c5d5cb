use Rattle.std.proofs.Common.{◌<◌, [], arith, eq-eqb, ne_eqb}
use Rattle.sift_buffer.specs.Views.{after_looks}
use Rattle.sift_buffer.proofs.port.Port.turn.Goals as goal

-- after a round of looks
pub returns-clause-tried : goal.returns-clause-tried
returns-clause-tried g c =
    let some : 0 < (g.Self.Look.view c.args.self.now).conduct.progress = let ne = c.if-progress-eq0.false in let e = c.progress.ensures in omega arith in
    after_looks _ some c.in_default.ensures.decided c.leave-2.ensures.turned

pub returns-clause-follows : goal.returns-clause-follows
returns-clause-follows g c = g.met.Self.Look.follows_on _ _ _ [] [] c.find_behind.ensures.follows c.leave-2.ensures.follows

-- at progress 0
pub returns-then-progress-eq0-clause-steps : goal.returns-then-progress-eq0-clause-steps
returns-then-progress-eq0-clause-steps g c =
    let none = c.if-progress-eq0.true in let e = c.progress.ensures in
    rw (eq-eqb (g.Self.Look.view c.args.self.now).conduct.progress 0 (omega arith)) c.leave.ensures.steps

-- beyond it
pub returns-clause-steps : goal.returns-clause-steps
returns-clause-steps g c =
    let ne = c.if-progress-eq0.false in let e = c.progress.ensures in
    rw (ne_eqb (g.Self.Look.view c.args.self.now).conduct.progress 0 (λ z. omega arith))
    (g.met.Self.Look.makes_more _ _ _ _ 1 c.in_default.ensures.steps c.leave-2.ensures.steps)
