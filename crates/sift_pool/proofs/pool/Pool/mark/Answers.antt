use Rattle.std.proofs.Common.{arith}
use Rattle.sift_pool.proofs.Laid.{held, count_is}
use Rattle.sift_pool.proofs.pool.Pool.mark.Goals as goal

pub returns : goal.returns
returns c =
    let holds = held _ _ _ _ _ c.self.view_is c.self.invariant in
    omega (arith, count_is _ _ _ _ _ holds, c.self.inside.spans.ok.0)
