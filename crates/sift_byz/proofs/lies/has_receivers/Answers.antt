use Rattle.std.proofs.Common.{refl, subst}
use Rattle.sift_byz.specs.Stated.{AreReceivers}
use Rattle.sift_byz.proofs.Testing.{not_both, one_value}
use Rattle.sift_byz.proofs.lies.has_receivers.Goals as goal

-- it has no path
pub returns-in-None : goal.returns-in-None
returns-in-None c = (λ yes. absurd (not_both yes refl), λ has. absurd (c.in-None.ensures.none (has.0, has.2, has.3)))

-- it has no receivers
pub returns-in-None-receivers_of : goal.returns-in-None-receivers_of
returns-in-None-receivers_of c = (
  λ yes. absurd (not_both yes refl),
  λ has.
      let same = one_value _ has.0 c.in-Some.path.items has.2 c.in-Some.ensures.found in
      absurd (c.in-None-receivers_of.ensures.none has.1 has.4 (rw c.deref.ensures.0 (subst (λ path. AreReceivers c.args.units path has.1) same has.5))),
)

-- it has both
pub returns-in-Some-receivers_of : goal.returns-in-Some-receivers_of
returns-in-Some-receivers_of c = (
  λ _. (
    c.in-Some.path.items,
    c.in-Some-receivers_of.field-0.items,
    c.in-Some.ensures.found,
    c.in-Some.ensures.path,
    c.in-Some-receivers_of.ensures.found,
    rw c.deref.ensures.0 at c.in-Some-receivers_of.ensures.receivers,
  ),
  λ _. refl,
)
