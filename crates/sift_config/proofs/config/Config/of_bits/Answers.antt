use Rattle.std.proofs.Common.{ap, length, arith}
use Rattle.sift_base.specs.Units.{members, AreUnits}
use Rattle.sift_base.specs.laws.Sets.{are_units, len_of_members}
use Rattle.sift_config.specs.laws.Lists.{members_are_config}
use Rattle.sift_config.proofs.config.Config.of_bits.Goals as goal

pub returns-clause-none : goal.returns-clause-none
returns-clause-none c =
    let are : AreUnits c.of_bits-units.result = rw c.of_bits-units.ensures (are_units c.args.bits) in
    let same = ap (λ us. length (members us)) c.of_bits-units.ensures in
    omega (arith, same, len_of_members c.of_bits-units.result are, c.len.ensures, c.if-len-ge4.false)

pub invariant_of-result : goal.invariant_of-result
invariant_of-result c =
    let are : AreUnits c.of_bits-units.result = rw c.of_bits-units.ensures (are_units c.args.bits) in (
      are,
      members_are_config c.of_bits-units.result are (omega (arith, len_of_members c.of_bits-units.result are, c.len.ensures, c.if-len-ge4.true)),
    )
