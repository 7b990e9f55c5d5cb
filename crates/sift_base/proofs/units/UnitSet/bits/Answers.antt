use Rattle.std.proofs.Common.{sym}
use Rattle.sift_base.specs.laws.ReadBack.{bits_of-units_of}
use Rattle.sift_base.specs.laws.Sets.{are_units}
use Rattle.sift_base.proofs.units.UnitSet.bits.Goals as goal

pub returns-clause-byte : goal.returns-clause-byte
returns-clause-byte c = rw (← c.self.view_is) (sym (bits_of-units_of c.self.inside.bits c.self.invariant))

pub returns-clause-units : goal.returns-clause-units
returns-clause-units c = rw (← c.self.view_is) (are_units c.self.inside.bits)
