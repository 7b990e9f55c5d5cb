use Rattle.sift_base.specs.laws.Sets.{without_bit}
use Rattle.sift_base.proofs.units.UnitSet.without.Goals as goal

pub returns : goal.returns
returns c = rw (← c.self.view_is, ← c.get.ensures.number) (without_bit c.self.inside.bits c.get.result c.get.ensures.small)
