use Rattle.std.proofs.Common.{[]}
use Rattle.sift_buffer.proofs.port.Port.try_enter.Goals as goal

pub returns-clause-follows : goal.returns-clause-follows
returns-clause-follows g c = g.met.Self.Look.follows_on _ _ _ [] [] c.find_behind.ensures.follows c.enter.ensures.follows

pub returns-clause-steps : goal.returns-clause-steps
returns-clause-steps g c = g.met.Self.Look.makes_more _ _ _ _ 1 c.in_default.ensures.steps c.enter.ensures.steps
