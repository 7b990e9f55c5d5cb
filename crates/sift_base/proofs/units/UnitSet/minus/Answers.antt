use Rattle.sift_base.specs.laws.Sets.{difference_bits}
use Rattle.sift_base.proofs.units.UnitSet.minus.Goals as goal

pub returns : goal.returns
returns c = rw (← c.self.view_is, ← c.b.view_is) (difference_bits c.self.inside.bits c.b.inside.bits c.b.invariant)
