use Rattle.sift_base.specs.laws.Sets.{ones_are_members}
use Rattle.sift_base.proofs.units.UnitSet.len.Goals as goal

pub returns : goal.returns
returns c = rw (← c.self.view_is) (ones_are_members c.self.inside.bits c.self.invariant)
