use Rattle.std.proofs.Common.{◌/◌, ◌^◌, ◌-◌, ap, ◌∙◌}
use Rattle.sift_base.specs.Units.{members}
use Rattle.sift_base.specs.laws.Sets.{are_units}
use Rattle.sift_config.specs.laws.Lists.{first_bits, first_are_config}
use Rattle.sift_config.proofs.config.Config.all.Goals as goal

pub invariant_of-result : goal.invariant_of-result
invariant_of-result c =
    let first = first_bits c.args.n c.requires.0 c.requires.1 in
    rw c.of_bits.ensures (are_units (255 / 2 ^ (8 - c.args.n)), rw first (first_are_config c.args.n c.requires.0 c.requires.1))

pub returns : goal.returns
returns c = ap members c.of_bits.ensures ∙ first_bits c.args.n c.requires.0 c.requires.1
