use Rattle.sift_base.specs.laws.Sets.{with_bit}
use Rattle.sift_base.proofs.units.UnitSet.with.Goals as goal

pub returns : goal.returns
returns c = rw (← c.self.view_is, ← c.get.ensures.number) (with_bit c.self.inside.bits c.get.result c.get.ensures.small)
