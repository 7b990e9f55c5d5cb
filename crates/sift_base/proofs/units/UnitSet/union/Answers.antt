use Rattle.sift_base.specs.laws.Sets.{union_bits}
use Rattle.sift_base.proofs.units.UnitSet.union.Goals as goal

pub returns : goal.returns
returns c = rw (← c.self.view_is, ← c.b.view_is) (union_bits c.self.inside.bits c.b.inside.bits)
