use Rattle.std.proofs.Common.{subst, arith}
use Rattle.sift_byz.specs.Stated.{AreReceivers}
use Rattle.sift_byz.proofs.Testing.{ascending_few, not_both, one_value}
use Rattle.sift_byz.proofs.lies.receivers_of.Goals as goal

-- receivers are no more than units
pub returns-in_err-to-clause-none : goal.returns-in_err-to-clause-none
returns-in_err-to-clause-none c =
    rw c.from_residual.ensures (λ to is receivers.
    omega (arith, c.in_err-to.ensures.none to is, ascending_few c.args.units to receivers.ascending receivers.below, c.requires))

-- these are receivers
pub returns-then-are_receivers-clause-receivers : goal.returns-then-are_receivers-clause-receivers
returns-then-are_receivers-clause-receivers c = rw c.deref.ensures.0 at (c.are_receivers.ensures.0 c.if-are_receivers.true)

-- these aren't
pub returns-else-are_receivers-clause-none : goal.returns-else-are_receivers-clause-none
returns-else-are_receivers-clause-none c to is receivers =
    let same = one_value _ to c.in_ok-to.to.items is c.in_ok-to.ensures.found in
    not_both (c.are_receivers.ensures.1 (rw c.deref.ensures.0 (subst (AreReceivers c.args.units c.args.path.now) same receivers))) c.if-are_receivers.false
